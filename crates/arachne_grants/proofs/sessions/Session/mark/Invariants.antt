use Rattle.arachne_grants.specs.Sessions.{AreMarked}
use Rattle.arachne_grants.proofs.sessions.Session.mark.Given as goal

-- the cores of the threads so far are marked
abbrev pub invariant-each : goal.invariant-each
invariant-each l = AreMarked l.initial.marks l.marks l.self.threads l.thread-index
