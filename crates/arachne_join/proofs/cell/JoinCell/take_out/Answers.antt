use Rattle.std.proofs.Common.{rules}
use Rattle.arachne_join.proofs.CellSteps.{holds_one}
use Rattle.arachne_join.proofs.cell.JoinCell.take_out.Goals as goal

pub exchange-requires : goal.exchange-requires
exchange-requires g c = let held = c.requires.1 in (search rules, holds_one _ held.0 held.1)
