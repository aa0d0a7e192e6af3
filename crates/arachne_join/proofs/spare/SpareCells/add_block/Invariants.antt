use Rattle.std.proofs.Common.{◌≡◌, []}
use Rattle.arachne_join.specs.{declared.{block.TheConstants.CELLS, part.Part.TheVariants.Rest}, Parts.part_view}
use Rattle.arachne_join.proofs.spare.SpareCells.add_block.Given as goal

abbrev pub invariant-loop-index : goal.invariant-loop-index
invariant-loop-index g l = (l.block.value.slots ≡ CELLS) × (l.all.table_id ≡ l.block.value) × (l.all.me ≡ (part_view Rest l.index 0, []))
