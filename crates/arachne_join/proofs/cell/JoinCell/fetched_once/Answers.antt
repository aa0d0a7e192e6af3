use Rattle.std.proofs.Common.{rules}
use Rattle.arachne_join.proofs.CellSteps.{joins_fetched, fetched_alone}
use Rattle.arachne_join.proofs.cell.JoinCell.fetched_once.Goals as goal

pub join_seat-requires : goal.join_seat-requires
join_seat-requires g c = (search rules, search rules, search rules, search rules, joins_fetched _ _ _ _ _ _ (search rules))

pub load-requires : goal.load-requires
load-requires g c = (search rules, search rules, fetched_alone _ _ _ _ _)
