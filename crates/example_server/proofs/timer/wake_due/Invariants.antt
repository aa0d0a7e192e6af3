use Rattle.arachne_pool.specs.Workers.{IsWorkerOf}
use Rattle.example_server.proofs.timer.wake_due.Given as goal

-- between two wakes the worker is the pool's
abbrev pub invariant-loop-context : goal.invariant-loop-context
invariant-loop-context g l = IsWorkerOf l.server.pool l.worker
