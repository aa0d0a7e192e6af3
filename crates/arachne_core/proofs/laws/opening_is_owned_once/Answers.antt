use Rattle.arachne_core.proofs.Runs.{opening_owned_once}
use Rattle.arachne_core.proofs.laws.opening_is_owned_once.Goals as goal

pub returns : goal.returns
returns c = opening_owned_once
