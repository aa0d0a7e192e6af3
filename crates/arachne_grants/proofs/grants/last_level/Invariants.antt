use Rattle.std.proofs.Common.{◌-◌}
use Rattle.arachne_grants.specs.Grants.{AreEnough}
use Rattle.arachne_grants.proofs.grants.last_level.Given as goal

abbrev pub invariant-halve : goal.invariant-halve
invariant-halve l = AreEnough l.clients l.cores l.claim

abbrev pub decreases-halve : goal.decreases-halve
decreases-halve l = l.too_many - l.claim.gets
