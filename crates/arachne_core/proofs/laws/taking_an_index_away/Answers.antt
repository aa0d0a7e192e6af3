use Rattle.arachne_core.proofs.OccupancyWords.{has_one_less}
use Rattle.arachne_core.proofs.laws.taking_an_index_away.Goals as goal

pub returns : goal.returns
returns c = has_one_less
