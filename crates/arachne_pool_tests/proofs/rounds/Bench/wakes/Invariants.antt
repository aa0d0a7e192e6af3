use Rattle.arachne_pool.specs.Workers.{IsWorkerOf}
use Rattle.arachne_pool_tests.proofs.rounds.Bench.wakes.Given as goal

-- between two wakes the worker is the pool's
abbrev pub invariant-loop-time : goal.invariant-loop-time
invariant-loop-time g l = IsWorkerOf l.self.pool.now l.worker
