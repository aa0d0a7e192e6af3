use Rattle.std.proofs.Common.{rules, Some}
use Rattle.arachne_join.proofs.CellSteps.{opens, takes_slot}
use Rattle.arachne_join.proofs.cell.JoinCell.new.Goals as goal

pub vacant-requires : goal.vacant-requires
vacant-requires g c = opens _ _ (Some c.args.key.now)

pub load-requires : goal.load-requires
load-requires g c = let made = c.in_ok-table.ensures in (search rules, search rules, takes_slot _ _ _ _ (Some c.args.key.now) _ made.4)
