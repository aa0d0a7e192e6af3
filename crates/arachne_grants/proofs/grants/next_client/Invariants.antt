use Rattle.arachne_grants.specs.Grants.{IsNext}
use Rattle.arachne_grants.proofs.grants.next_client.Given as goal

-- it would be that one's among the clients so far
abbrev pub invariant-look : goal.invariant-look
invariant-look l = IsNext l.clients l.targets l.place l.next
