use Rattle.std.proofs.Common.{◌≡◌}
use Rattle.arachne_arbiter.proofs.draining.Draining.next_core.Given as goal

abbrev pub invariant-loop : goal.invariant-loop
invariant-loop l = l.self.waiting ≡ l.fn.self.waiting
