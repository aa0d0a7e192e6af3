-- Changes of a worker's queue.
use Rattle.std.specs.Prelude.{◌≡◌, ◌≤◌, ℕ, Option, None, IsSome, max}
use Rattle.arachne_core.specs.declared.place.Place.{Place}
use Rattle.arachne_workers.specs.declared.queue.RunQueue.{RunQueue}

-- true if the queue's `next`, the slot whose thread runs before all others, was removed and given, and nothing else
-- has changed
abbrev pub HasGivenNext : Option Place → RunQueue → RunQueue → Type 0
HasGivenNext given before after = IsSome given × (before.next ≡ given) × (after ≡ record before { next = None })

-- true if no step was made since the worker last read the stop word, and since it last carried out due orders
abbrev pub HasLooked : RunQueue → Type 0
HasLooked queue = (queue.lag.unread ≡ 0) × (queue.lag.untended ≡ 0)

-- true if no more steps were made between two looks at the stop word, or at the orders, than `quantum`, or than before
abbrev pub LooksWithin : ℕ → RunQueue → RunQueue → Type 0
LooksWithin quantum before after = after.lag.most ≤ max before.lag.most quantum
