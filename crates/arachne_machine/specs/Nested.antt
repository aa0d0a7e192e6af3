-- The view that callers have of a thread with the threads that run in its place.
use Rattle.std.specs.Prelude.{◌≡◌, ◌≢◌, ◌≤◌, ℕ, ◌+◌, List, [], ◌∷◌, ◌++◌, map, Option, None, Some}
use Rattle.arachne_program.specs.{declared.program.{Program.Program, Class.Class}, Effects.{Task, tabulated}}
use Rattle.arachne_program.specs.{Meaning.child_of, Tree.Source, Program.source_of}
use Rattle.arachne_machine.specs.declared.line.Ran.TheVariants as ways
use Rattle.arachne_machine.specs.{declared.pause.Pending.Pending, Trace.{At, task_trace}, Work.task_work}
use Rattle.arachne_machine.specs.Suspended.{Suspended, IsAnswered, IsFresh, SameThread, added, awaited}
use Rattle.arachne_machine.specs.declared.pause.Pending.TheVariants as pause

-- a child that was handed back to run in its parent's place and is not awaited yet, with the threads that run in its
-- own
pub record Placed : Type 0 where
  pub running : Suspended
  pub parents : List Suspended

pub record Nested : Type 0 where
  -- the innermost thread, which goes on next
  pub running : Suspended
  -- The threads that wait: each awaits the one before it, and the first awaits the innermost thread. The others all run
  -- in the place of the last.
  pub parents : List Suspended
  -- the children that were handed back to run here and are not awaited yet, the newest first
  pub placed : List Placed
  -- for each ledger, the sum of what the threads that have begun here, and those that they have joined, have added to
  -- it, modulo 2 ^ 64
  pub sums : List ℕ

-- a thread in whose place no other runs
abbrev pub alone : Suspended → List ℕ → Nested
alone thread sums = record { running = thread; parents = []; placed = []; sums = sums }

abbrev pub IsAlone : Nested → Type 0
IsAlone t = (t.parents ≡ []) × (t.placed ≡ []) × (t.running.here ≡ [])

-- the last of a thread and those that wait for it
abbrev pub outermost : Suspended → List Suspended → Suspended
outermost thread [] = thread
outermost thread (parent ∷ parents) = outermost parent parents

-- the thread in whose place the others run
abbrev pub whole : Nested → Suspended
whole t = outermost t.running t.parents

-- The pending pause: the one that is not answered yet. It is the innermost thread's.
abbrev pub pending_in : Nested → Option Pending
pending_in t = t.running.pending

abbrev pub works : List Suspended → ℕ
works [] = 0
works (thread ∷ threads) = thread.work + works threads

abbrev pub works_placed : List Placed → ℕ
works_placed [] = 0
works_placed (child ∷ children) = child.running.work + works child.parents + works_placed children

-- the steps that all of them have left
abbrev pub work_in : Nested → ℕ
work_in t = t.running.work + works t.parents + works_placed t.placed

-- one number is less than another by at least `least` and at most `most`
pub record FallsBy (least most from to : ℕ) : Type 0 where
  pub made : ℕ
  pub at_least : least ≤ made
  pub at_most : made ≤ most
  pub left : to + made ≡ from

-- the thread with another tag
abbrev pub with_tag : ℕ → Suspended → Suspended
with_tag tag thread = record thread { label = record thread.label { tag = tag } }

-- the thread as one that runs in its parent's place
abbrev pub in_place_of : Suspended → Suspended
in_place_of thread = record thread { label = record thread.label { ran = ways.InPlace } }

-- The thread, marked as running in its parent's place if it is the outermost of itself and these parents.
abbrev pub marked : Suspended → List Suspended → Suspended
marked thread [] = in_place_of thread
marked thread (parent ∷ parents) = thread

abbrev pub marked_parents : List Suspended → List Suspended
marked_parents [] = []
marked_parents (parent ∷ parents) = marked parent parents ∷ marked_parents parents

-- the thread as one of this program
abbrev pub of_program : Program → Suspended → Suspended
of_program program thread = record thread { program = program }

-- the thread as one for which a place was found while it waited
abbrev pub spilled_of : Suspended → Suspended
spilled_of thread = record thread { label = record thread.label { ran = ways.Spill } }

-- The parent awaits this child, which runs in its place.
pub record IsAwaiting (child parent : Suspended) : Type 0 where
  pub joins : parent.pending ≡ Some pause.Joins
  pub of_child : awaited parent ≡ Some child.name
  pub same_source : source_of child.program ≡ source_of parent.program
  pub in_place : child.label.ran ≡ ways.InPlace

abbrev pub Await : Suspended → List Suspended → Type 0
Await child [] = Unit {0}
Await child (parent ∷ parents) = IsAwaiting child parent × Await parent parents

-- a child that was placed in a thread of this program
pub record IsPlaced (source : Source) (child : Placed) : Type 0 where
  pub same_source : source_of child.running.program ≡ source
  pub not_paused : child.running.pending ≡ None
  pub in_place : (outermost child.running child.parents).label.ran ≡ ways.InPlace
  pub awaiting : Await child.running child.parents

abbrev pub ArePlaced : Source → List Placed → Type 0
ArePlaced source [] = Unit {0}
ArePlaced source (child ∷ children) = IsPlaced source child × ArePlaced source children

pub record IsNested (t : Nested) : Type 0 where
  pub awaiting : Await t.running t.parents
  pub waiting : ArePlaced (source_of t.running.program) t.placed

-- The newest of these children have begun, and the others are left.
abbrev pub IsRest : List Placed → List Placed → Type 0
IsRest old new = (begun : List Placed) × (old ≡ begun ++ new)

-- The thread awaits no child, or another than the newest that was placed here.
abbrev pub AwaitsElsewhere : Suspended → List Placed → Type 0
AwaitsElsewhere thread [] = Unit {0}
AwaitsElsewhere thread (child ∷ children) = awaited thread ≢ Some (outermost child.running child.parents).name

-- both are of one program, and have one name and label
pub record SameWhole (old new : Nested) : Type 0 where
  pub program : (whole new).program ≡ (whole old).program
  pub name : (whole new).name ≡ (whole old).name
  pub label : (whole new).label ≡ (whole old).label

-- The child is the one that the innermost thread has just forked. It is of an equal program, has no pending pause, and
-- no other thread runs in its place.
pub record IsChildOf (t child : Nested) : Type 0 where
  pub awaits : awaited t.running ≡ Some (whole child).name
  pub same_source : source_of (whole child).program ≡ source_of (whole t).program
  pub not_paused : pending_in child ≡ None
  pub alone : IsAlone child

-- The child may run in the thread's place: it is of an equal program, and has no pending pause.
pub record MayBePlaced (t child : Nested) : Type 0 where
  pub same_source : source_of (whole child).program ≡ source_of (whole t).program
  pub not_paused : pending_in child ≡ None

-- a child may be placed at a fork or at a join
abbrev pub IsPlacing : Option Pending → Type 0
IsPlacing (Some pause.Forks) = Unit {0}
IsPlacing (Some pause.Joins) = Unit {0}
IsPlacing _ = ⊥

-- a child that will run in its parent's place, with the threads that run in its own
abbrev pub placed_of : Nested → Placed
placed_of child = record { running = marked child.running child.parents; parents = marked_parents child.parents }

-- The innermost thread goes on with what it evaluates while the child runs, and the child is placed. Children that were
-- placed in the child come behind it.
pub record PlacesAtFork (old child new : Nested) : Type 0 where
  pub same : SameThread old.running new.running
  pub sums : new.sums ≡ old.sums
  pub holds : new.running.holds ≡ old.running.holds
  pub locks : new.running.locks ≡ old.running.locks
  pub parents : new.parents ≡ old.parents
  pub placed : new.placed ≡ placed_of child ∷ (child.placed ++ old.placed)
  pub trace : IsAnswered old.running new.running

-- The thread after an awaited child has begun in the place of the innermost thread, with the threads that run in the
-- child's place, as threads of the same program. Children that were placed in the child are the newest.
abbrev pub begun_in : Nested → Nested → Nested
begun_in t child = record {
  running = of_program t.running.program (marked child.running child.parents);
  parents = map (of_program t.running.program) (marked_parents child.parents) ++ t.running ∷ t.parents;
  placed = child.placed ++ t.placed;
  sums = added t.sums child.sums;
}

-- The child is new, and its class and task are those that the program gives to the thread's newest fork.
pub record IsForked (class : Class) (thread : Suspended) (child : Nested) : Type 0 where
  pub number : ℕ
  pub others : List ℕ
  pub unjoined : thread.unjoined ≡ number ∷ others
  pub alone : IsAlone child
  pub fresh : IsFresh thread.program (thread.name ++ number ∷ []) 0 (whole child)
  pub no_sums : child.sums ≡ tabulated thread.program.ledgers (λ ledger. 0)
  pub task : Task
  pub is_child : child_of (source_of thread.program) thread.name number ≡ Some (record { class = class; task = task })
  pub childs_work : (whole child).work ≡ task_work (source_of thread.program).arrays task
  pub childs_trace : (whole child).trace ≡ task_trace (source_of thread.program).arrays task ++ At pause.Ended ∷ []

-- At least one step was made and at most `budget`, and this pause is pending.
pub record Stops (budget : ℕ) (old new : Nested) (next : Pending) : Type 0 where
  pub same : SameWhole old new
  pub pending : pending_in new ≡ Some next
  pub work : FallsBy 1 budget (work_in old) (work_in new)
