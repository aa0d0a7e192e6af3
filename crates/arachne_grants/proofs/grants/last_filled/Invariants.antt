use Rattle.arachne_grants.specs.Grants.{AreEnough}
use Rattle.arachne_grants.proofs.grants.last_filled.Given as goal

abbrev pub invariant-priority : goal.invariant-priority
invariant-priority l = AreEnough l.clients l.cores l.claim
