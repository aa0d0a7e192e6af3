use Rattle.std.proofs.Common.{ℕ, List, ◌∷◌, sym, subst}
use Rattle.arachne_machine.specs.{declared.line.ThreadLine.ThreadLine, Outcome.IsOfItsName, Strands.own_line}
use Rattle.arachne_machine.proofs.Answering.{ended_means}
use Rattle.arachne_machine.proofs.state.State.finish.Goals as goal

pub returns-clause-of_its_name : goal.returns-clause-of_its_name
returns-clause-of_its_name c =
    let t = c.args.self.now in
    let v = c.value-contents.result in
    let Told : ThreadLine → List ℕ → List ThreadLine → Type 0 = λ own sums below.
    IsOfItsName (record { program = t.program.now; name = own.name; value = v; sums = sums; lines = own ∷ below }) in
    subst (λ own. Told own c.swap.new.x.items c.swap-2.new.x) (sym c.take_line.ensures.line)
    (subst (λ below. Told (own_line t.own) c.swap.new.x.items below) (sym c.swap-2.ensures.x_after)
    (subst (λ sums. Told (own_line t.own) sums.items t.lines) (sym c.swap.ensures.x_after)
    (ended_means t v c.requires.sound c.requires.alone c.value-contents.ensures)))
