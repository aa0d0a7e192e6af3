use Rattle.arachne_grants.specs.Owners.{AreHeld}
use Rattle.arachne_grants.proofs.owners.count_held.Given as goal

-- the clients so far hold what they have
abbrev pub invariant-fill : goal.invariant-fill
invariant-fill l = AreHeld l.initial.clients l.clients l.owners l.client
