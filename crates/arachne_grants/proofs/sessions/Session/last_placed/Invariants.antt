use Rattle.arachne_grants.specs.Sessions.{IsLastPlaced}
use Rattle.arachne_grants.proofs.sessions.Session.last_placed.Given as goal

-- it is the last of those so far
abbrev pub invariant-look : goal.invariant-look
invariant-look l = IsLastPlaced l.self.threads l.place l.last
