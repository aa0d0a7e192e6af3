use Rattle.arachne_core.proofs.OccupancyWords.{not_exclusive}
use Rattle.arachne_core.proofs.laws.taking_exclusive_away.Goals as goal

pub returns : goal.returns
returns c = not_exclusive
