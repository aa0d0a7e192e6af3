use Rattle.std.proofs.Common.{sym, ◌∙◌}
use Rattle.arachne_core.proofs.OccupancyWords.{removing}
use Rattle.arachne_core.proofs.occ_word.OccWord.without_bit.Goals as goal

pub overflow_sub-result : goal.overflow_sub-result
overflow_sub-result c = (removing c.self.inside.word c.args.index c.from.result c.args.self c.self.invariant c.self.view_is c.from.ensures c.requires (sym c.is_occupied.ensures ∙ c.if-not-is_occupied.false)).0

pub invariant_of-result : goal.invariant_of-result
invariant_of-result c = (removing c.self.inside.word c.args.index c.from.result c.args.self c.self.invariant c.self.view_is c.from.ensures c.requires (sym c.is_occupied.ensures ∙ c.if-not-is_occupied.false)).1

pub returns-else-not-is_occupied : goal.returns-else-not-is_occupied
returns-else-not-is_occupied c = (removing c.self.inside.word c.args.index c.from.result c.args.self c.self.invariant c.self.view_is c.from.ensures c.requires (sym c.is_occupied.ensures ∙ c.if-not-is_occupied.false)).2
