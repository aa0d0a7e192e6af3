use Rattle.std.proofs.Common.{sym, ◌∙◌, arith}
use Rattle.arachne_core.proofs.OccupancyWords.{adding}
use Rattle.arachne_core.proofs.occ_word.OccWord.with_bit.Goals as goal

pub overflow_add-result-else-is_occupied : goal.overflow_add-result-else-is_occupied
overflow_add-result-else-is_occupied c =
    let a = adding c.self.inside.word c.args.index c.from.result c.args.self c.self.invariant c.self.view_is c.from.ensures c.requires (sym c.is_occupied.ensures ∙ c.if-is_occupied.false) in
    omega (arith, a.0)

pub invariant_of-result : goal.invariant_of-result
invariant_of-result c =
    (adding c.self.inside.word c.args.index c.from.result c.args.self c.self.invariant c.self.view_is c.from.ensures c.requires (sym c.is_occupied.ensures ∙ c.if-is_occupied.false)).1

pub returns-else-is_occupied : goal.returns-else-is_occupied
returns-else-is_occupied c =
    (adding c.self.inside.word c.args.index c.from.result c.args.self c.self.invariant c.self.view_is c.from.ensures c.requires (sym c.is_occupied.ensures ∙ c.if-is_occupied.false)).2
