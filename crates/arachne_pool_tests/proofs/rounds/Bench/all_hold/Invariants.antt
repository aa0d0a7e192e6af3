use Rattle.arachne_pool.specs.Workers.{IsWorkerOf}
use Rattle.arachne_pool_tests.proofs.rounds.Bench.all_hold.Given as goal

-- between two acts the worker is the pool's
abbrev pub invariant-loop-act : goal.invariant-loop-act
invariant-loop-act g l = IsWorkerOf l.self.pool.now l.worker
