use Rattle.std.specs.Prelude.{◌≡◌, max}
use Rattle.arachne_workers.specs.RunQueues.{LooksWithin}
use Rattle.arachne_pool.proofs.calls.run.Given as goal

-- between two rounds the seat is one at the same table, and no slice was longer than a job may ask for
abbrev pub invariant-loop : goal.invariant-loop
invariant-loop g l =
    (l.core_worker.dispatch ≡ l.initial.core_worker.dispatch) × LooksWithin (max 1 g.J.PoolJob.most_steps) l.initial.core_worker.queue l.core_worker.queue
