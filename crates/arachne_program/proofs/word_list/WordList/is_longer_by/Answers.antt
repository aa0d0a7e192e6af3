use Rattle.arachne_program.proofs.NumberLists.{decides_longer}
use Rattle.arachne_program.proofs.word_list.WordList.is_longer_by.Goals as goal

pub returns-then-from-number : goal.returns-then-from-number
returns-then-from-number c =
    decides_longer c.eq.result c.args.self.now c.in-Some.others.now c.args.front.now c.in-Some.last.now c.args.number
    (rw (← c.as_slice.ensures) c.in-Some.ensures.cases.0) (rw (← c.from.ensures) c.if-from-number.true)
    (rw (← c.as_slice-then-from-number.ensures) c.eq.ensures)
