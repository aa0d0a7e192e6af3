use Rattle.example_exec.specs.Relay.{IsFree}
use Rattle.example_exec.proofs.relay.spawn_all.Given as goal

abbrev pub invariant-loop-turn : goal.invariant-loop-turn
invariant-loop-turn l = IsFree l.executor l.seat

abbrev pub invariant-loop-shard : goal.invariant-loop-shard
invariant-loop-shard l = IsFree l.executor l.seat
