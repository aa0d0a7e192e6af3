use Rattle.arachne_grants.specs.Owners.{IsNextShort}
use Rattle.arachne_grants.proofs.owners.next_short.Given as goal

-- it would be that one's among the clients so far
abbrev pub invariant-look : goal.invariant-look
invariant-look l = IsNextShort l.clients l.targets l.held l.place l.next
