use Rattle.arachne_core.proofs.Runs.{stays_drained}
use Rattle.arachne_core.proofs.laws.drained_core_stays_drained.Goals as goal

pub returns : goal.returns
returns c = stays_drained
