use Rattle.std.proofs.Common.{Bool, sym, ap, ◌∙◌, subst}
use Rattle.arachne_core.specs.Occupancy.{IsOccupancyWord, occupancy_of}
use Rattle.arachne_core.proofs.OccupancyWords.{set_exclusive, clear_exclusive}
use Rattle.arachne_core.proofs.occ_word.OccWord.with_exclusive.Goals.{then-exclusive, else-exclusive}
use Rattle.arachne_core.proofs.occ_word.OccWord.with_exclusive.Goals as goal

pub invariant_of-result : goal.invariant_of-result
invariant_of-result c = elim c.if-exclusive.branch [
  | then-exclusive w ↦ subst IsOccupancyWord (sym w.word-is) (set_exclusive _ _ c.self.invariant c.self.view_is).0
  | else-exclusive w ↦ subst IsOccupancyWord (sym w.word-is) (clear_exclusive _ _ c.self.invariant c.self.view_is).0
]

pub returns : goal.returns
returns c = elim c.if-exclusive.branch [
  | then-exclusive w ↦ ap occupancy_of w.word-is ∙ (set_exclusive _ _ c.self.invariant c.self.view_is).1 ∙ ap (λ (b : Bool). record c.args.self { exclusive = b }) (sym w.if-exclusive.true)
  | else-exclusive w ↦ ap occupancy_of w.word-is ∙ (clear_exclusive _ _ c.self.invariant c.self.view_is).1 ∙ ap (λ (b : Bool). record c.args.self { exclusive = b }) (sym w.if-exclusive.false)
]
