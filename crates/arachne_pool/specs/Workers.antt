-- What contracts see of a worker, and whose worker it is.
use Rattle.std.specs.Prelude.{◌≡◌, ℕ, ◌<◌, ◌≤◌, List, ◌++◌, Option, None, Some, IfSome, All}
use Rattle.arachne_arbiter.specs.Orders.{Progress}
use Rattle.arachne_contexts.specs.declared.seats.Seats as seats
use Rattle.arachne_pool.specs.Jobs.{Being}
use Rattle.arachne_pool.specs.declared.pool.Pool.{Pool}
use Rattle.arachne_pool.specs.declared.tally.Tally.{Tally}
use Rattle.arachne_policy.specs.declared.orders.CoreOrder.{CoreOrder}
use Rattle.arachne_policy.specs.declared.orders.OrderKind.TheVariants.{Release}
use Rattle.arachne_workers.specs.declared.queue.RunQueue.{RunQueue}

-- a worker's seat, unless it has lost it; its queue of jobs that wait for a slot, the oldest first; its counts of jobs,
-- and the part of them that was reported to the pool; its orders, if any; the core on which it last worked, at first a
-- number that is no core's; and its queue
pub record WorkerView (Seat Job : Type 0) : Type 0 where
  pub seat : Option Seat
  pub waiting : List (Being Job)
  pub tally : Tally
  pub told : Tally
  pub arbiter : Option Progress
  pub core : ℕ
  pub queue : RunQueue

-- true if no job has made a step by this worker
abbrev pub HasMadeNoStep : {Seat Job : Type 0} → WorkerView Seat Job → Type 0
HasMadeNoStep worker = worker.queue.lag.most ≡ 0

-- true if the worker has worked for none of these cores
abbrev pub HasNoCore : {Seat Job : Type 0} → ℕ → WorkerView Seat Job → Type 0
HasNoCore cores worker = cores ≤ worker.core

-- true if the orders, if there are any, are for this number of cores
abbrev pub IsArbiterFor : ℕ → Option Progress → Type 0
IsArbiterFor cores arbiter = IfSome arbiter (λ progress. progress.cores ≡ cores)

-- true if this is the core on which the worker last worked
abbrev pub WorksFor : {Seat Job : Type 0} → ℕ → WorkerView Seat Job → Type 0
WorksFor core worker = worker.core ≡ core

-- true if the list is `orders`, behind orders that close cores at once
pub record ComeLast (orders list : List CoreOrder) : Type 0 where
  pub closing : List CoreOrder
  pub both : list ≡ closing ++ orders
  pub close : All (λ order. (order.kind ≡ Release) × (order.after ≡ 0)) closing

module _ {Table Seat : Type 0} (sits idle : Table → Seat → Type 0) where
  -- true if the seat is one at this table, and nothing is out with it
  abbrev pub IsIdleAt : Table → Seat → Type 0
  IsIdleAt table seat = sits table seat × idle table seat

module _ {C Job Seat : Type 0} {G : seats.Ghosts C Seat} where
  -- true if the worker's seat, if any, is one at the pool's table with which nothing is out, and its orders are for the
  -- pool's cores
  abbrev pub IsWorkerOf : Pool C Seat G → WorkerView Seat Job → Type 0
  IsWorkerOf pool worker = IfSome worker.seat (IsIdleAt G.sits G.idle pool.table) × IsArbiterFor pool.cores worker.arbiter
