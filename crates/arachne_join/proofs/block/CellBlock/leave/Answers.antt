use Rattle.std.proofs.Common.{rules}
use Rattle.arachne_join.proofs.BlockLaws.{holds_slot, slot_laid, leaves}
use Rattle.arachne_join.proofs.block.CellBlock.leave.Goals as goal

pub exchange-requires : goal.exchange-requires
exchange-requires g c = (search rules, holds_slot _ _ _ c.requires.sending.1.1)

pub store-requires : goal.store-requires
store-requires g c = let sending = c.requires.sending in
    (search rules, search rules, leaves g.T.Fits.fits _ _ _ _ _ sending.0 _ _ (slot_laid _ _ _ _ _ sending.1.1 c.exchange.ensures.3) (search rules) c.requires.word sending.2)
