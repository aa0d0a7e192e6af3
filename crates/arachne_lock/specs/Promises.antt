-- The promises of a lawful history, in terms of only the places in it.
use Rattle.std.specs.{Prelude.{◌≡◌, ℕ, ◌<◌, List, slice_get}, declared.option.Option.TheVariants.Some}
use Rattle.arachne_lock.specs.declared.event.QueueEvent.{QueueEvent, TheVariants.{Ask, Grant, Free, Leave}}
use Rattle.arachne_lock.specs.History.{IsQuiet}

-- at most one task holds the lock at a time
pub record HasOneHolderAtATime (events : List QueueEvent) : Type 0 where
  -- between a grant and a later one, the first task frees
  pub freed_between : (i j first second : ℕ) → i < j
      → slice_get events i ≡ Some (Grant first) → slice_get events j ≡ Some (Grant second)
      → (k : ℕ) × (i < k) × (k < j) × (slice_get events k ≡ Some (Free first))
  -- before a free there is a grant to the same task, and neither a grant nor a free is between the two
  pub granted_before : (j who : ℕ) → slice_get events j ≡ Some (Free who)
      → (i : ℕ) × (i < j) × (slice_get events i ≡ Some (Grant who))
      × ((k : ℕ) (event : QueueEvent) → i < k → k < j → slice_get events k ≡ Some event → IsQuiet event)

-- a task that has left is granted the lock only after it has asked again
abbrev pub GrantsNoneThatLeft : List QueueEvent → Type 0
GrantsNoneThatLeft events = (i j who : ℕ) → i < j → slice_get events i ≡ Some (Leave who) → slice_get events j ≡ Some (Grant who)
    → (k : ℕ) × (i < k) × (k < j) × (slice_get events k ≡ Some (Ask who))

-- the lock has one holder at a time, and is granted to no task that has left
abbrev pub IsHeldWell : List QueueEvent → Type 0
IsHeldWell events = HasOneHolderAtATime events × GrantsNoneThatLeft events
