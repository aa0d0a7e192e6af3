-- Histories that extend others, and events with their places.
use Rattle.std.specs.Prelude.{◌≡◌, ℕ, ◌+◌, List, [], ◌∷◌, ◌++◌, length, drop, slice_get, count_by, ◌==◌, nat_lt, if◌then◌else◌}
use Rattle.std.specs.declared.option.Option.{Option, TheVariants.{None, Some}}
use Rattle.arachne_sleep.specs.declared.event.LockEvent.{LockEvent, TheVariants.{Ask, Grant, Free}}
use Rattle.arachne_sleep.specs.declared.{answer.Pass.Pass, view.PlacedEvent.PlacedEvent}

-- the history begins with this one
abbrev pub BeginsWith : List LockEvent → List LockEvent → Type 0
BeginsWith history seen = (rest : List LockEvent) × (history ≡ seen ++ rest)

-- these events, from this place on
abbrev pub placed : ℕ → List LockEvent → List PlacedEvent
placed at [] = []
placed at (event ∷ events) = record { at = at; event = event } ∷ placed (at + 1) events

-- the events that the history `after` has behind the history `before`, with which it begins
abbrev pub since : List LockEvent → List LockEvent → List PlacedEvent
since before after = placed (length before) (drop (length before) after)

-- the event is in the history at its place
abbrev pub StandsIn : List LockEvent → PlacedEvent → Type 0
StandsIn history m = slice_get history m.at ≡ Some m.event

-- the number of these events that are at the place
abbrev pub times_at : ℕ → List PlacedEvent → ℕ
times_at k made = count_by (λ (m : PlacedEvent). m.at == k) made

-- 1 for a number below n, and otherwise 0
abbrev pub once_below : ℕ → ℕ → ℕ
once_below k n = if nat_lt k n then 1 else 0

-- the events are those of the history and no others, each at its place, and each once
pub record IsMadeOf (history : List LockEvent) (made : List PlacedEvent) : Type 0 where
  pub stands : (i : ℕ) (m : PlacedEvent) → slice_get made i ≡ Some m → StandsIn history m
  pub once : (k : ℕ) → times_at k made ≡ once_below k (length history)

-- the pass is one of the lock with this number, and the history has a grant to its thread at its place
abbrev pub IsGrantedIn : ℕ → List LockEvent → Pass → Type 0
IsGrantedIn number history pass = (pass.lock ≡ number) × (slice_get history pass.at ≡ Some (Grant pass.who))

-- the pass of the lock with this number for an event at this place, if the event is a grant
abbrev pub pass_of : ℕ → ℕ → Option LockEvent → Option Pass
pass_of number at (Some (Grant who)) = Some (record { lock = number; who = who; at = at })
pass_of number at (Some (Ask who)) = None
pass_of number at (Some (Free who)) = None
pass_of number at None = None

-- the pass for a place of the history, if there is one
abbrev pub pass_at : ℕ → List LockEvent → Option ℕ → Option Pass
pass_at number history None = None
pass_at number history (Some at) = pass_of number at (slice_get history at)

-- the place of a pass, if there is one
abbrev pub place_of : Option Pass → Option ℕ
place_of None = None
place_of (Some pass) = Some pass.at
