use Rattle.std.proofs.Common.{ℕ, ◌<◌}
use Rattle.arachne_grants.specs.Sessions.{IsTaken}
use Rattle.arachne_grants.proofs.Marks.{AreAllMarked}
use Rattle.arachne_grants.proofs.state.CoreArbiter.first_free.Given as goal

-- the cores of the clients so far are marked
abbrev pub invariant-each : goal.invariant-each
invariant-each l = AreAllMarked l.self.sessions l.marks l.session-index

-- each core so far is taken
abbrev pub invariant-look : goal.invariant-look
invariant-look l = (core : ℕ) → core < l.core → IsTaken l.self.sessions core
