use Rattle.std.proofs.Common.{◌≡◌}
use Rattle.arachne_exec_tests.proofs.turns.each_of_64_ready_jobs_is_taken_within_64_takes.Given as goal

abbrev pub invariant-loop : goal.invariant-loop
invariant-loop g l = l.seat.table ≡ l.executor.table

abbrev pub invariant-loop-2 : goal.invariant-loop-2
invariant-loop-2 g l = l.seat.table ≡ l.executor.table
