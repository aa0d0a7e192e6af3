use Rattle.arachne_core.proofs.Runs.{stays_held}
use Rattle.arachne_core.proofs.laws.holder_keeps_its_thread.Goals as goal

pub returns : goal.returns
returns c = stays_held
