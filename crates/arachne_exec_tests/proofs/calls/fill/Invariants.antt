use Rattle.std.proofs.Common.{◌≡◌}
use Rattle.arachne_exec.specs.Calls.{KeepsHand}
use Rattle.arachne_exec_tests.proofs.calls.fill.Given as goal

abbrev pub invariant-loop : goal.invariant-loop
invariant-loop l = (l.seat.table ≡ l.executor.table) × KeepsHand l.fn.seat.known l.seat.known
