use Rattle.std.proofs.Common.{rules, ap}
use Rattle.arachne_join.proofs.BlockLaws.{opens_for, opened, parts_ends, sends_for, receives_for, slot_laid}
use Rattle.arachne_join.proofs.block.CellBlock.open.Goals as goal

pub load-requires : goal.load-requires
load-requires g c = (search rules, search rules, opens_for g.T.Fits.fits _ _ _ _ c.of.result _ (slot_laid _ _ _ _ _ c.requires.unused c.exchange.ensures.3))

pub split_seat-requires : goal.split_seat-requires
split_seat-requires g c = (
  search rules,
  search rules,
  parts_ends g.T.Fits.fits _ _ _ _ _
      (ap (λ m. m.0) (opened _ _ c.of.result _ _ (slot_laid _ _ _ _ _ c.requires.unused c.exchange.ensures.3) c.load.ensures.2)),
)

pub returns-clause-sending : goal.returns-clause-sending
returns-clause-sending g c = sends_for _ _ c.of.result _ _ _ c.of.ensures (opened _ _ c.of.result _ _ (slot_laid _ _ _ _ _ c.requires.unused c.exchange.ensures.3) c.load.ensures.2) c.split_seat.ensures.2

pub returns-clause-receiving : goal.returns-clause-receiving
returns-clause-receiving g c = receives_for _ _ c.of.result _ _ _ c.of.ensures (opened _ _ c.of.result _ _ (slot_laid _ _ _ _ _ c.requires.unused c.exchange.ensures.3) c.load.ensures.2) c.split_seat.ensures.4
