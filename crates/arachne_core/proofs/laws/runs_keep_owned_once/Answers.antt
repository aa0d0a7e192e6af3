use Rattle.arachne_core.proofs.Runs.{run_keeps_owned_once}
use Rattle.arachne_core.proofs.laws.runs_keep_owned_once.Goals as goal

pub returns : goal.returns
returns c = run_keeps_owned_once
