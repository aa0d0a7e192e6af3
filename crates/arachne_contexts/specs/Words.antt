-- The meaning of a word, for a core or for a context.
use Rattle.std.specs.Prelude.{◌≡◌, ◌≢◌, ℕ, ◌<◌, ◌⊎◌, true, false, slice_index_or}
use Rattle.arachne_core.specs.declared.{mark.Mark.TheVariants.{Ready, Woken}, place.Place.Place}
use Rattle.arachne_core.specs.declared.{thread_id.ThreadId.ThreadId, layout.TheConstants.CORE_BITS}
use Rattle.arachne_core.specs.{Occupancy.{Occupancy, occupancy_of}, Marked.marked_of}

-- no index below `slots` is free
abbrev pub HasNoFree : ℕ → Occupancy → Type 0
HasNoFree slots o = (i : ℕ) → i < slots → slice_index_or o.occupied i false ≡ true

-- no new thread may come to the core: it is exclusive, or no index is free
abbrev pub HasNoPlace : ℕ → Occupancy → Type 0
HasNoPlace slots o = (o.exclusive ≡ true) ⊎ HasNoFree slots o

abbrev pub ShowsClosed : ℕ → Type 0
ShowsClosed word = (occupancy_of word).closed ≡ true

-- the word shows an open core that has no place for a thread
abbrev pub ShowsFull : ℕ → ℕ → Type 0
ShowsFull slots word = ((occupancy_of word).closed ≡ false) × HasNoPlace slots (occupancy_of word)

-- the word shows an open core with something on it
abbrev pub ShowsInUse : ℕ → Type 0
ShowsInUse word = ((occupancy_of word).closed ≡ false) × (word ≢ 0)

-- the word shows a core to which no thread may be moved
abbrev pub ShowsNoRoom : ℕ → ℕ → Type 0
ShowsNoRoom slots word = ((occupancy_of word).closed ≡ true) ⊎ HasNoPlace slots (occupancy_of word)

-- the word shows a ready thread at the place
abbrev pub ShowsReadyAt : Place → ℕ → Type 0
ShowsReadyAt p word = ((marked_of CORE_BITS word).mark ≡ Ready) × ((marked_of CORE_BITS word).place ≡ p)

-- the word shows the thread of the id, which is ready or was woken while it is held
abbrev pub ShowsWoken : ThreadId → ℕ → Type 0
ShowsWoken id word = (((marked_of CORE_BITS word).mark ≡ Ready) ⊎ ((marked_of CORE_BITS word).mark ≡ Woken))
    × ((marked_of CORE_BITS word).generation ≡ id.generation)
