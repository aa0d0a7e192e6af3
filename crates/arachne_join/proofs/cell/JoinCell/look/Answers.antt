use Rattle.std.proofs.Common.{rules, []}
use Rattle.arachne_join.proofs.CellSteps.{looks}
use Rattle.arachne_join.proofs.cell.JoinCell.look.Goals as goal

pub load_new_seat-requires : goal.load_new_seat-requires
load_new_seat-requires g c = (search rules, looks _ _ _ _ [])
