-- The lists of a table: their invariant, and one change at a time.
use Rattle.std.specs.Prelude.{◌≡◌, ℕ, ◌*◌, ◌<◌, ◌≤◌, ◌+◌, Bool, List, slice_set, slice_index_or, length}
use Rattle.arachne_core.specs.declared.{state.{Context.Context, State.TheVariants.Free}, place.Place.Place}
use Rattle.arachne_core.specs.{declared.event.Event.Event, Place.{first_place, number_of}, Occupancy.Occupancy}
use Rattle.arachne_core.specs.{declared.layout.TheConstants.{CORES, SLOTS, MASK_BITS, LAST_GENERATION}, World.after}
use Rattle.arachne_core.specs.ContextTable.{ContextTable, no_context, no_core, context, core, world_of, IsVacantFrom, posts_of, retires_of}

abbrev pub with_context : ContextTable → ℕ → Context → ContextTable
with_context k x e = record k { contexts = slice_set k.contexts x e }

abbrev pub with_core : ContextTable → ℕ → Occupancy → ContextTable
with_core k c o = record k { cores = slice_set k.cores c o }

abbrev pub with_occupied : ContextTable → Place → Bool → ContextTable
with_occupied k p b = with_core k p.core (record (core k p.core) { occupied = slice_set (core k p.core).occupied p.index b })

abbrev pub with_closed : ContextTable → ℕ → Bool → ContextTable
with_closed k c b = with_core k c (record (core k c) { closed = b })

abbrev pub with_exclusive : ContextTable → ℕ → Bool → ContextTable
with_exclusive k c b = with_core k c (record (core k c) { exclusive = b })

-- contexts x and y swap places
abbrev pub with_swapped : ContextTable → ℕ → ℕ → ContextTable
with_swapped k x y = with_context (with_context k x (record (context k x) { place = (context k y).place })) y (record (context k y) { place = (context k x).place })

-- the event was applied, and took no more reserved memory than it needs
abbrev pub Makes : Event → ContextTable → ContextTable → Type 0
Makes e old new = (world_of new ≡ after (world_of old) e) × (old.posts ≤ new.posts + posts_of e) × (old.retires ≤ new.retires + retires_of e)

-- the place is one of the table's
abbrev pub HasPlace : ContextTable → Place → Type 0
HasPlace k p = (p.core < length k.cores) × (p.index < length (core k p.core).occupied)

-- a context as it is at first
abbrev pub first_context : ℕ → ℕ → ℕ → Context
first_context slots generation x = record { place = first_place slots x; generation = generation; state = Free }

-- The invariant of the lists: they have an entry for each context and core, each place and generation is in range, and
-- `residents` has the context at each place.
pub record IsTable (slots : ℕ) (cs : List Context) (os : List Occupancy) (rs : List ℕ) : Type 0 where
  pub few : length os ≤ CORES
  pub some_slots : 1 ≤ slots
  pub few_slots : slots ≤ SLOTS
  pub contexts : length cs ≡ length os * slots
  pub residents : length rs ≡ length cs
  pub indexes : (c : ℕ) → c < length os → length (slice_index_or os c no_core).occupied ≡ MASK_BITS
  pub beyond : (c : ℕ) → c < length os → IsVacantFrom slots (slice_index_or os c no_core)
  pub placed : (x : ℕ) → x < length cs → ((slice_index_or cs x no_context).place.core < length os) × ((slice_index_or cs x no_context).place.index < slots)
  pub found : (x : ℕ) → x < length cs → slice_index_or rs (number_of slots (slice_index_or cs x no_context).place) 0 ≡ x
  pub generations : (x : ℕ) → x < length cs → (slice_index_or cs x no_context).generation ≤ LAST_GENERATION
