-- The model of the type World: its contexts and cores in lists by number, and the World that these stand for.
use Rattle.std.specs.Prelude.{◌≡◌, ℕ, ◌+◌, ◌≤◌, Bool, true, false, ◌&&◌, List, [], length, count_by, slice_index_or, Result, Ok, Err, codes}
use Rattle.arachne_core.specs.declared.{state.{Context.Context, State.State}, event.Event.Event}
use Rattle.arachne_core.specs.declared.event.NotApplied.{NotApplied, TheVariants.{NotAllowed, Memory}}
use Rattle.arachne_core.specs.{declared.{mark.Mark.Mark, layout.TheConstants.LAST_GENERATION}, Occupancy.Occupancy}
use Rattle.arachne_core.specs.{Marked.Marked, World.{World, Thread, same_thread, core_of, Allowed, after}}
use Rattle.arachne_core.specs.declared.state.State.TheVariants as state
use Rattle.arachne_core.specs.declared.event.Event.TheVariants as event
use Rattle.arachne_core.specs.declared.mark.Mark.TheVariants as mark

pub record ContextTable : Type 0 where
  pub contexts : List Context
  pub cores : List Occupancy
  -- the number of places of each core
  pub slots : ℕ
  -- the threads that were posted, and those that have ended, in order
  pub given : List Thread
  pub ended : List Thread
  -- the number of posts and of retires for which memory is reserved
  pub posts : ℕ
  pub retires : ℕ

-- the default context and core, for a number that the table doesn't have
abbrev pub no_context : Context
no_context = record { place = record { core = 0; index = 0 }; generation = 0; state = state.Free }

abbrev pub no_core : Occupancy
no_core = record { occupied = []; closed = false; exclusive = false }

abbrev pub context : ContextTable → ℕ → Context
context k x = slice_index_or k.contexts x no_context

abbrev pub core : ContextTable → ℕ → Occupancy
core k c = slice_index_or k.cores c no_core

-- the number of times that the list has the thread
abbrev pub times : List Thread → Thread → ℕ
times ts t = count_by (same_thread t) ts

-- the World that the table stands for
abbrev pub world_of : ContextTable → World
world_of k = record {
  cores = length k.cores;
  slots = k.slots;
  last = LAST_GENERATION;
  at = λ x. (context k x).place;
  occupied = λ p. slice_index_or (core k p.core).occupied p.index false;
  generation = λ x. (context k x).generation;
  state = λ x. (context k x).state;
  closed = λ c. (core k c).closed;
  alone = λ c. (core k c).exclusive;
  given = times k.given;
  ended = times k.ended;
}

-- ---- the result of an event on a table

-- the number of posts, and of retires, for which an event uses reserved memory
abbrev pub posts_of : Event → ℕ
posts_of (event.Post h x tag) = 1
posts_of e = 0

abbrev pub retires_of : Event → ℕ
retires_of (event.Retire h x) = 1
retires_of e = 0

-- the event needs reserved memory, and none is left
abbrev pub LacksRoom : ContextTable → Event → Type 0
LacksRoom k (event.Post h x tag) = k.posts ≡ 0
LacksRoom k (event.Retire h x) = k.retires ≡ 0
LacksRoom k e = ⊥

-- The result of an event, given the table before and after it. The event is applied exactly if it is allowed, unless
-- memory for it is refused; otherwise nothing changes.
abbrev pub Answers : Event → ContextTable → ContextTable → Result (Unit {0}) NotApplied → Type 0
Answers e old new (Ok done) = Allowed (world_of old) e × (world_of new ≡ after (world_of old) e)
    × (old.posts ≤ new.posts + posts_of e) × (old.retires ≤ new.retires + retires_of e)
Answers e old new (Err NotAllowed) = (Allowed (world_of old) e → ⊥) × (new ≡ old)
Answers e old new (Err Memory) = Allowed (world_of old) e × LacksRoom old e × (new ≡ old)

-- the text of a refusal
abbrev pub refusal_text : NotApplied → List ℕ
refusal_text NotAllowed = codes "the event isn't allowed here"
refusal_text Memory = codes "memory for the event was refused"

-- ---- the words of the World

-- this is the occupancy of core c: an index is occupied exactly if its place is
pub record ShowsCore (w : World) (c : ℕ) (o : Occupancy) : Type 0 where
  pub occupied : (i : ℕ) → slice_index_or o.occupied i false ≡ w.occupied (record { core = c; index = i })
  pub closed : o.closed ≡ w.closed c
  pub exclusive : o.exclusive ≡ w.alone c

-- no index is occupied from `slots` on
abbrev pub IsVacantFrom : ℕ → Occupancy → Type 0
IsVacantFrom slots o = (i : ℕ) → slots ≤ i → slice_index_or o.occupied i false ≡ false

abbrev pub mark_of : State → Mark
mark_of state.Free = mark.Free
mark_of (state.Claimed h) = mark.Free
mark_of (state.Ready tag) = mark.Ready
mark_of (state.Blocked tag) = mark.Blocked
mark_of (state.Held h false tag) = mark.Held
mark_of (state.Held h true tag) = mark.Woken
mark_of state.Spent = mark.Spent

abbrev pub is_live_state : State → Bool
is_live_state (state.Ready tag) = true
is_live_state (state.Blocked tag) = true
is_live_state (state.Held h woken tag) = true
is_live_state s = false

-- The mark word of a context. Its `alone` bit is set if the context is live and its core exclusive.
abbrev pub marked : World → ℕ → Marked
marked w x = record {
  mark = mark_of (w.state x);
  alone = is_live_state (w.state x) && w.alone (core_of w x);
  place = w.at x;
  generation = w.generation x;
}
