use Rattle.std.proofs.Common.{◌≡◌}
use Rattle.arachne_exec_tests.proofs.turns.each_ready_job_of_a_worker_is_run_in_turn.Given as goal

abbrev pub invariant-loop-job : goal.invariant-loop-job
invariant-loop-job g l = (l.seat.table ≡ l.initial.seat.table) × (l.seat.known.worker ≡ 1)

abbrev pub invariant-loop : goal.invariant-loop
invariant-loop g l = (l.seat.table ≡ l.initial.seat.table) × (l.seat.known.worker ≡ 1)
