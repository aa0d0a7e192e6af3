use Rattle.std.proofs.Common.{◌≡◌, ℕ, ◌<◌, length}
use Rattle.arachne_grants.specs.Grants.{client_at}
use Rattle.arachne_grants.specs.Sessions.{session_at, wants_of}
use Rattle.arachne_grants.proofs.state.CoreArbiter.clients.Given as goal

-- those of the clients so far are there
abbrev pub invariant-each : goal.invariant-each
invariant-each l = record { sized : length l.clients ≡ 64; each : (k : ℕ) → k < l.client → client_at l.clients k ≡ wants_of (session_at l.self.sessions k) }
