-- The events of a lock, oldest first: the holding after them, and when they are lawful.
use Rattle.std.specs.{Prelude.{◌≡◌, ℕ, ◌<◌, List, [], ◌∷◌, slice_get}, declared.option.Option.TheVariants.Some}
use Rattle.arachne_lock.specs.declared.event.QueueEvent.{QueueEvent, TheVariants.{Ask, Grant, Free, Leave}}
use Rattle.arachne_lock.specs.Law.{Holding, opening, Allows, after, IsNeverIdle}

-- the holding after these events, from h on
abbrev pub replay_from : Holding → List QueueEvent → Holding
replay_from h [] = h
replay_from h (event ∷ events) = replay_from (after h event) events

-- the holding after these events, from the opening on
abbrev pub replay : List QueueEvent → Holding
replay events = replay_from opening events

-- each event is allowed in the holding in which it happens
abbrev pub IsLawfulFrom : Holding → List QueueEvent → Type 0
IsLawfulFrom h [] = Unit {0}
IsLawfulFrom h (event ∷ events) = Allows h event × IsLawfulFrom (after h event) events

-- each event is allowed in the holding in which it happens, from the opening on
abbrev pub IsLawful : List QueueEvent → Type 0
IsLawful events = IsLawfulFrom opening events

-- the invariant of a lock's events between calls: they are lawful, and nobody waits while nobody owns the lock
pub record IsSound (events : List QueueEvent) : Type 0 where
  pub lawful : IsLawful events
  pub never_idle : IsNeverIdle (replay events)

-- the event is neither a grant nor a free
abbrev pub IsQuiet : QueueEvent → Type 0
IsQuiet (Ask who) = Unit {0}
IsQuiet (Grant who) = ⊥
IsQuiet (Free who) = ⊥
IsQuiet (Leave who) = Unit {0}

-- the lock has been held since the grant at this place: no grant and no free follows it
pub record HoldsSince (events : List QueueEvent) (who at : ℕ) : Type 0 where
  pub granted : slice_get events at ≡ Some (Grant who)
  pub since : (k : ℕ) (event : QueueEvent) → at < k → slice_get events k ≡ Some event → IsQuiet event
