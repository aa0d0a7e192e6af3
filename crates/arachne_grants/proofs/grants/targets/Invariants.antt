use Rattle.arachne_grants.proofs.Order.{AreSoFar}
use Rattle.arachne_grants.proofs.grants.targets.Given as goal

-- these cores are given, each to the client that had the first claim
abbrev pub invariant-grant : goal.invariant-grant
invariant-grant l = AreSoFar l.clients l._core l.targets
