use Rattle.std.proofs.Common.{rules, ap}
use Rattle.arachne_join.proofs.BlockLaws.{gives_first, starts}
use Rattle.arachne_join.proofs.block.CellBlock.give_first.Goals as goal

pub split_seat-cell-requires : goal.split_seat-cell-requires
split_seat-cell-requires g c = (search rules, search rules, gives_first g.T.Fits.fits _ _ _ _ (ap (λ m. m.0) c.requires.all))

pub load-requires : goal.load-requires
load-requires g c = (search rules, search rules, starts g.T.Fits.fits _ _ _ _ (search rules) (search rules))
