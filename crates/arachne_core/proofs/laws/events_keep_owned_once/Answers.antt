use Rattle.arachne_core.proofs.KeepsOwnedOnce.{keeps_owned_once}
use Rattle.arachne_core.proofs.laws.events_keep_owned_once.Goals as goal

pub returns : goal.returns
returns c = keeps_owned_once
