-- Histories that extend others, and events with their lock and place.
use Rattle.std.specs.Prelude.{◌≡◌, ℕ, ◌+◌, List, [], ◌∷◌, ◌++◌, slice_get, count_by, ◌==◌, ◌&&◌, nat_lt, if◌then◌else◌}
use Rattle.std.specs.declared.option.Option.TheVariants.{Some}
use Rattle.arachne_lock.specs.declared.{event.QueueEvent.QueueEvent, view.LoggedEvent.LoggedEvent}

-- the history begins with this one
abbrev pub BeginsWith : List QueueEvent → List QueueEvent → Type 0
BeginsWith history seen = (rest : List QueueEvent) × (history ≡ seen ++ rest)

-- these events of the lock, from this place on
abbrev pub placed : ℕ → ℕ → List QueueEvent → List LoggedEvent
placed lock at [] = []
placed lock at (event ∷ events) = record { lock = lock; at = at; event = event } ∷ placed lock (at + 1) events

-- the event is in its lock's history at its place
abbrev pub StandsIn : (ℕ → List QueueEvent) → LoggedEvent → Type 0
StandsIn histories m = slice_get (histories m.lock) m.at ≡ Some m.event

abbrev pub is_at : ℕ → ℕ → LoggedEvent → ℕ
is_at lock at m = if (m.lock == lock) && (m.at == at) then 1 else 0

-- the number of these events that are at the lock's place
abbrev pub times_at : ℕ → ℕ → List LoggedEvent → ℕ
times_at lock at made = count_by (λ (m : LoggedEvent). (m.lock == lock) && (m.at == at)) made

-- 1 for a number below n, and otherwise 0
abbrev pub once_below : ℕ → ℕ → ℕ
once_below k n = if nat_lt k n then 1 else 0
