use Rattle.arachne_core.proofs.OccupancyWords.{has_one_more}
use Rattle.arachne_core.proofs.laws.adding_an_index.Goals as goal

pub returns : goal.returns
returns c = has_one_more
