use Rattle.std.proofs.Common.{Bool, sym, ap, ◌∙◌, subst}
use Rattle.arachne_core.specs.Occupancy.{IsOccupancyWord, occupancy_of}
use Rattle.arachne_core.proofs.OccupancyWords.{set_closed, clear_closed}
use Rattle.arachne_core.proofs.occ_word.OccWord.with_closed.Goals.{then-closed, else-closed}
use Rattle.arachne_core.proofs.occ_word.OccWord.with_closed.Goals as goal

pub invariant_of-result : goal.invariant_of-result
invariant_of-result c = elim c.if-closed.branch [
  | then-closed w ↦ subst IsOccupancyWord (sym w.word-is) (set_closed _ _ c.self.invariant c.self.view_is).0
  | else-closed w ↦ subst IsOccupancyWord (sym w.word-is) (clear_closed _ _ c.self.invariant c.self.view_is).0
]

pub returns : goal.returns
returns c = elim c.if-closed.branch [
  | then-closed w ↦ ap occupancy_of w.word-is ∙ (set_closed _ _ c.self.invariant c.self.view_is).1 ∙ ap (λ (b : Bool). record c.args.self { closed = b }) (sym w.if-closed.true)
  | else-closed w ↦ ap occupancy_of w.word-is ∙ (clear_closed _ _ c.self.invariant c.self.view_is).1 ∙ ap (λ (b : Bool). record c.args.self { closed = b }) (sym w.if-closed.false)
]
