use Rattle.arachne_core.proofs.OccupancyWords.{now_exclusive}
use Rattle.arachne_core.proofs.laws.adding_exclusive.Goals as goal

pub returns : goal.returns
returns c = now_exclusive
