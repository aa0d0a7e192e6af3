-- Why a pool was not closed, and what `Pool::close` returns then.
use Rattle.std.specs.Prelude.{◌≡◌, ◌≢◌, ◌+◌}
use Rattle.arachne_contexts.specs.declared.seats.Seats as seats
use Rattle.arachne_pool.specs.Leftover.{IsWhole, count_of}
use Rattle.arachne_pool.specs.Workers.{IsIdleAt, WorkerView}
use Rattle.arachne_pool.specs.declared.closing.NotClosed.{NotClosed}
use Rattle.arachne_pool.specs.declared.closing.NotClosed.TheVariants.{NotWhole, Memory, Lost}
use Rattle.arachne_pool.specs.declared.pool.Pool.{Pool}
use Rattle.arachne_weights.specs.Weight.{whole}

module _ {C Job Seat Output : Type 0} {G : seats.Ghosts C Seat} where
  -- true if the error returns: for `NotWhole`, the same pool and worker, whose seat has not the whole weight; for
  -- `Memory`, the table with its whole seat, with which nothing is out, and the jobs that had no slot; for `Lost`, jobs
  -- whose number isn't that of spawned minus ended jobs
  abbrev pub ComesBack : Pool C Seat G → WorkerView Seat Job → NotClosed C Job Seat Output G → Type 0
  ComesBack pool worker (NotWhole back theirs) = (back ≡ pool) × (theirs ≡ worker) × (IsWhole G.weight worker.seat → ⊥)
  ComesBack pool worker (Memory table seat near) =
      IsIdleAt G.sits G.idle table seat × (G.weight seat ≡ whole) × (near.items ≡ worker.waiting)
  ComesBack pool worker (Lost left) =
      (left.near.items ≡ worker.waiting) × (worker.tally.spawned ≢ worker.tally.ended + count_of left)
