use Rattle.arachne_grants.proofs.Decided.{IsDecided-answers}
use Rattle.arachne_grants.proofs.grants.targets_are_decided.Goals as goal

pub returns : goal.returns
returns c = IsDecided-answers c.args.clients.now c.args.cores
