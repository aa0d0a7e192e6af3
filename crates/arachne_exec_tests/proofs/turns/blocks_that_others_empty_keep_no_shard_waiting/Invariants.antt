use Rattle.std.proofs.Common.{◌≡◌}
use Rattle.arachne_exec_tests.proofs.turns.blocks_that_others_empty_keep_no_shard_waiting.Given as goal

abbrev pub invariant-loop : goal.invariant-loop
invariant-loop g l = (l.seat.table ≡ l.initial.seat.table) × (l.other.table ≡ l.initial.other.table) × (l.seat.known.worker ≡ 1)
