use Rattle.std.proofs.Common.{arith}
use Rattle.arachne_grants.proofs.Levels.{sum-first}
use Rattle.arachne_grants.proofs.grants.last_filled.Goals as goal

pub later-claim-requires : goal.later-claim-requires
later-claim-requires c = omega (arith, sum-first c.args.clients.now)
