-- The World of a table, and the values of the threads at rest.
use Rattle.std.specs.Prelude.{◌≡◌, ℕ, ◌*◌, List, length, slice_index_or, Option, None, Some}
use Rattle.arachne_core.specs.declared.{state.State.State, event.Event.Event, thread_id.ThreadId.ThreadId}
use Rattle.arachne_core.specs.{ContextTable.ContextTable, World.{World, IsContext, HoldsIn, tag_of}}
use Rattle.arachne_core.specs.declared.state.State.TheVariants as state
use Rattle.arachne_core.specs.declared.event.Event.TheVariants as event

-- the model of a table: its World, and for each context the value at home, if there is one
pub record TableView (T : Type 0) : Type 0 where
  pub table : ContextTable
  pub values : List (Option T)

-- the value at home in a context
abbrev pub value_at : {T : Type 0} → List (Option T) → ℕ → Option T
value_at values x = slice_index_or values x None

-- the event is not one that changes a value: a post, a take or a put-back
abbrev pub LeavesValues : Event → Type 0
LeavesValues (event.Post h x tag) = ⊥
LeavesValues (event.Take h x) = ⊥
LeavesValues (event.Rest h x r) = ⊥
LeavesValues e = Unit {0}

-- the event needs no memory: it is not a post or a retire
abbrev pub WantsNoRoom : Event → Type 0
WantsNoRoom (event.Post h x tag) = ⊥
WantsNoRoom (event.Retire h x) = ⊥
WantsNoRoom e = Unit {0}

-- h holds the thread of this id and tag
pub record HoldsThread (w : World) (h : ℕ) (id : ThreadId) (tag : ℕ) : Type 0 where
  pub holds : HoldsIn w h id.context
  pub generation : w.generation id.context ≡ id.generation
  pub tagged : tag_of (w.state id.context) ≡ tag

module _ {T : Type 0} (tag : T → ℕ) where
  -- there is a value, and it has this tag
  abbrev pub IsTagged : ℕ → Option T → Type 0
  IsTagged n (Some value) = tag value ≡ n
  IsTagged n None = ⊥

  -- the value at home in a context of this state is the thread's if the thread is at rest, and none otherwise
  abbrev pub IsKeptAt : State → Option T → Type 0
  IsKeptAt (state.Ready n) value = IsTagged n value
  IsKeptAt (state.Blocked n) value = IsTagged n value
  IsKeptAt s value = value ≡ None

  -- a value is at home exactly if its context is at rest, with the tag by which the World knows its thread
  pub record IsHome (w : World) (values : List (Option T)) : Type 0 where
    pub contexts : length values ≡ w.cores * w.slots
    pub kept : (x : ℕ) → IsContext w x → IsKeptAt (w.state x) (value_at values x)
