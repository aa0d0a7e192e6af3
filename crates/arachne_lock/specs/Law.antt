-- The state of a lock at one moment, and the effect of an event on it.
use Rattle.std.specs.Prelude.{◌≡◌, ℕ, List, [], ◌∷◌, ◌++◌, ◌⊎◌, ◌==◌, not, Contains, drop, filter, slice_get}
use Rattle.std.specs.declared.option.Option.{Option, TheVariants.{None, Some}}
use Rattle.arachne_lock.specs.declared.event.QueueEvent.{QueueEvent, TheVariants.{Ask, Grant, Free, Leave}}

-- the owner of the lock, if there is one, and the tasks that wait for it, in the order of their asks
pub record Holding : Type 0 where
  pub owner : Option ℕ
  pub queue : List ℕ

-- nobody owns the lock and nobody waits
abbrev pub opening : Holding
opening = record { owner = None; queue = [] }

-- the task owns the lock or waits for it
abbrev pub IsIn : Holding → ℕ → Type 0
IsIn h who = (h.owner ≡ Some who) ⊎ Contains h.queue who

-- the queue without this task
abbrev pub without : ℕ → List ℕ → List ℕ
without who queue = filter (λ (w : ℕ). not (w == who)) queue

-- The event is allowed. An ask must be by a task that is not in yet. A grant must go to the front of the queue, while
-- nobody owns the lock. A free must be by the owner, and a leave by a task that waits.
abbrev pub Allows : Holding → QueueEvent → Type 0
Allows h (Ask who) = ¬ IsIn h who
Allows h (Grant who) = (h.owner ≡ None) × (slice_get h.queue 0 ≡ Some who)
Allows h (Free who) = h.owner ≡ Some who
Allows h (Leave who) = Contains h.queue who

-- The holding after an event. An ask joins the end of the queue. A grant makes the front the owner. After a free the
-- lock has no owner. A task that leaves waits no longer.
abbrev pub after : Holding → QueueEvent → Holding
after h (Ask who) = record { owner = h.owner; queue = h.queue ++ who ∷ [] }
after h (Grant who) = record { owner = Some who; queue = drop 1 h.queue }
after h (Free who) = record { owner = None; queue = h.queue }
after h (Leave who) = record { owner = h.owner; queue = without who h.queue }

-- nobody waits while nobody owns the lock
abbrev pub IsNeverIdle : Holding → Type 0
IsNeverIdle h = h.owner ≡ None → h.queue ≡ []
