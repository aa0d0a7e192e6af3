use Rattle.arachne_join.proofs.BlockLaws.{new_block}
use Rattle.arachne_join.proofs.block.CellBlock.new.Goals as goal

pub new-requires : goal.new-requires
new-requires g c = new_block g.T.Fits.fits 64 _ c.in_ok-slots.ensures
