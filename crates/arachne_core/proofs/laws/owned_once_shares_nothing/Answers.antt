use Rattle.arachne_core.proofs.Runs.{shares_nothing}
use Rattle.arachne_core.proofs.laws.owned_once_shares_nothing.Goals as goal

pub returns : goal.returns
returns c = shares_nothing
