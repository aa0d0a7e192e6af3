use Rattle.std.proofs.Common.{◌≡◌}
use Rattle.example_exec.specs.Relay.{HasNone}
use Rattle.example_exec.proofs.relay.Relay.wake.Given as goal

abbrev pub invariant-loop : goal.invariant-loop
invariant-loop g l = HasNone l.fn.self.executor l.seat × (l.seat.known.worker ≡ l.fn.seat.known.worker)
