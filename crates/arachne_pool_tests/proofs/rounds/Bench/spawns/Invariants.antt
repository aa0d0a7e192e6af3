use Rattle.arachne_pool.specs.Workers.{IsWorkerOf}
use Rattle.arachne_pool_tests.proofs.rounds.Bench.spawns.Given as goal

-- between two spawns the worker is the pool's
abbrev pub invariant-loop : goal.invariant-loop
invariant-loop g l = IsWorkerOf l.self.pool.now l.worker
