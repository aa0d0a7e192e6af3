use Rattle.arachne_pool.specs.Workers.{IsWorkerOf}
use Rattle.arachne_pool_tests.proofs.rounds.Bench.feeds.Given as goal

-- between two jobs the worker is the pool's
abbrev pub invariant-loop-job : goal.invariant-loop-job
invariant-loop-job g l = IsWorkerOf l.self.pool.now l.worker
