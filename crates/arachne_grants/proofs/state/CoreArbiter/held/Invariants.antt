use Rattle.std.proofs.Common.{◌≡◌, ℕ, ◌<◌, length, get_or}
use Rattle.arachne_grants.specs.Sessions.{held_in, session_at}
use Rattle.arachne_grants.proofs.state.CoreArbiter.held.Given as goal

-- those of the clients so far are there
abbrev pub invariant-each : goal.invariant-each
invariant-each l = record { sized : length l.held ≡ 64; each : (k : ℕ) → k < l.client → get_or l.held k 0 ≡ held_in (session_at l.self.sessions k) }
