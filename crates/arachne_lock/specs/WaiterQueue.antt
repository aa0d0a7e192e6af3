-- The invariant of a wait queue's two halves. Private to the crate.
use Rattle.std.specs.{Prelude.{◌≡◌, ℕ, nat_eq, List}, List.{list_any, IsDistinct}}
use Rattle.arachne_lock.specs.declared.waiter_queue.WaiterQueue.TheInside.{Inside}

-- no task is twice in the queue, and the set has exactly the tasks of the queue
pub record Indexes (keys order : List ℕ) : Type 0 where
  pub distinct : IsDistinct nat_eq order
  pub members : (who : ℕ) → list_any (nat_eq who) keys ≡ list_any (nat_eq who) order

abbrev pub IsIndexed : Inside → Type 0
IsIndexed queue = Indexes queue.members.keys queue.order.items
