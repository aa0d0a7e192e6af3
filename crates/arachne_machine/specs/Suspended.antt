-- The view that callers have of a thread between two calls.
use Rattle.std.specs.Prelude.{◌≡◌, ◌≤◌, ℕ, ◌+◌, List, [], ◌∷◌, ◌++◌, length, get_or, set, Option, None, Some, option_map, slice_get}
use Rattle.arachne_program.specs.{Value.wrapped, Effects.{Task, tabulated}, declared.program.Class.Class}
use Rattle.arachne_program.specs.{declared.program.Program.Program, Program.source_of, Meaning.child_of}
use Rattle.arachne_machine.specs.declared.{line.{Label.Label, ThreadLine.ThreadLine}, pause.Pending.Pending}
use Rattle.arachne_machine.specs.{Outcome.Finished, Work.task_work, Trace.{Event, Step, At, with_steps, task_trace}}
use Rattle.arachne_machine.specs.declared.line.Ran.TheVariants as ways
use Rattle.arachne_machine.specs.declared.pause.Pending.TheVariants as pause

pub record Suspended : Type 0 where
  pub program : Program
  pub name : List ℕ
  -- its tag, and the place at which it runs
  pub label : Label
  -- the number of threads that it has forked
  pub forks : ℕ
  -- the numbers of its forks that are not joined, the newest first
  pub unjoined : List ℕ
  -- those of them whose children will run in its place, and have not begun
  pub here : List ℕ
  -- the locks that it has requested and not released, the newest first
  pub locks : List ℕ
  -- the pending pause: the one that is not answered yet
  pub pending : Option Pending
  -- for each lock, the number of times that it was granted, modulo 2 ^ 64
  pub holds : List ℕ
  -- the lines of the threads below it, as far as they were joined
  pub below : List ThreadLine
  -- the steps that it and the threads that it will fork have left
  pub work : ℕ
  -- its steps and pauses from now on, in order: the first is the pending pause or, if there is none, a step, and the
  -- last is its end
  pub trace : List Event

-- the name of the child that a join awaits: that of the newest fork that is not joined
abbrev pub awaited : Suspended → Option (List ℕ)
awaited thread = option_map (λ number. thread.name ++ number ∷ []) (slice_get thread.unjoined 0)

-- its own line, once it has ended
abbrev pub own_line_of : Suspended → ThreadLine
own_line_of thread = record { name = thread.name; tag = thread.label.tag; holds = thread.holds; ran = thread.label.ran }

-- the numbers with the one at this place raised by an amount, modulo 2 ^ 64; unchanged if there is no such place
abbrev pub raised : List ℕ → ℕ → ℕ → List ℕ
raised numbers place amount = set numbers place (wrapped (get_or numbers place 0 + amount))

-- the sums of both lists, number by number, modulo 2 ^ 64
abbrev pub added : List ℕ → List ℕ → List ℕ
added numbers others = tabulated (length numbers) (λ place. get_or numbers place 0 + get_or others place 0)

-- the pause is a request for a lock; the releases of locks and the tallies follow
abbrev pub IsAsk : Option Pending → Type 0
IsAsk (Some (pause.Asks lock)) = Unit {0}
IsAsk _ = ⊥

abbrev pub IsFree : Option Pending → Type 0
IsFree (Some (pause.Frees lock)) = Unit {0}
IsFree _ = ⊥

abbrev pub IsTally : Option Pending → Type 0
IsTally (Some (pause.Tallies ledger amount)) = Unit {0}
IsTally _ = ⊥

-- the pending pause comes first or, if there is none, a step
abbrev pub IsNext : Option Pending → List Event → Type 0
IsNext None trace = (others : List Event) × (trace ≡ Step ∷ others)
IsNext (Some next) trace = (others : List Event) × (trace ≡ At next ∷ others)

-- the pending pause was answered
abbrev pub IsAnswered : Suspended → Suspended → Type 0
IsAnswered old new = (answered : Pending) × (old.pending ≡ Some answered) × (old.trace ≡ At answered ∷ new.trace)

-- both are of one program, have one name and label, and have made and joined the same forks; the rest may differ
pub record SameThread (old new : Suspended) : Type 0 where
  pub program : new.program ≡ old.program
  pub name : new.name ≡ old.name
  pub label : new.label ≡ old.label
  pub forks : new.forks ≡ old.forks
  pub unjoined : new.unjoined ≡ old.unjoined
  pub here : new.here ≡ old.here
  pub below : new.below ≡ old.below

-- at least `least` steps were made and at most `most`, and nothing else was done
pub record MakesSteps (least most : ℕ) (old new : Suspended) : Type 0 where
  pub made : ℕ
  pub at_least : least ≤ made
  pub at_most : made ≤ most
  pub work : new.work + made ≡ old.work
  pub trace : old.trace ≡ with_steps made new.trace

-- a thread of this name and tag that has not begun, at a place of its own
pub record IsFresh (program : Program) (name : List ℕ) (tag : ℕ) (thread : Suspended) : Type 0 where
  pub same_program : thread.program ≡ program
  pub has_name : thread.name ≡ name
  pub has_label : thread.label ≡ record { tag = tag; ran = ways.Slot }
  pub no_forks : thread.forks ≡ 0
  pub none_unjoined : thread.unjoined ≡ []
  pub none_here : thread.here ≡ []
  pub no_locks : thread.locks ≡ []
  pub no_holds : thread.holds ≡ tabulated program.locks (λ lock. 0)
  pub none_below : thread.below ≡ []
  pub not_paused : thread.pending ≡ None

-- In at most `budget` steps the thread has forked this child. The child's name is its own followed by the number of the
-- fork, and the child's class and task are those that the program gives to that fork. The child's steps were counted
-- among the thread's own.
pub record Forked (budget : ℕ) (class : Class) (old new child : Suspended) : Type 0 where
  pub program : new.program ≡ old.program
  pub name : new.name ≡ old.name
  pub label : new.label ≡ old.label
  pub forks : new.forks ≡ old.forks + 1
  pub unjoined : new.unjoined ≡ old.forks ∷ old.unjoined
  pub here : new.here ≡ old.here
  pub locks : new.locks ≡ old.locks
  pub below : new.below ≡ old.below
  pub pending : new.pending ≡ Some pause.Forks
  pub fresh : IsFresh old.program (old.name ++ old.forks ∷ []) 0 child
  pub task : Task
  pub is_child : child_of (source_of old.program) old.name old.forks ≡ Some (record { class = class; task = task })
  pub childs_work : child.work ≡ task_work (source_of old.program).arrays task
  pub childs_trace : child.trace ≡ task_trace (source_of old.program).arrays task ++ At pause.Ended ∷ []
  pub made : ℕ
  pub at_least : 1 ≤ made
  pub at_most : made ≤ budget
  pub work : new.work + child.work + made ≡ old.work
  pub trace : old.trace ≡ with_steps made new.trace

-- The thread has joined this outcome, which is that of the child that it awaited.
pub record Joined (old : Suspended) (outcome : Finished) (new : Suspended) : Type 0 where
  pub of_child : awaited old ≡ Some outcome.name
  pub program : new.program ≡ old.program
  pub name : new.name ≡ old.name
  pub label : new.label ≡ old.label
  pub forks : new.forks ≡ old.forks
  pub unjoined : (number : ℕ) × (old.unjoined ≡ number ∷ new.unjoined)
  pub here : new.here ≡ old.here
  pub locks : new.locks ≡ old.locks
  pub holds : new.holds ≡ old.holds
  pub below : new.below ≡ old.below ++ outcome.lines
  pub pending : new.pending ≡ None
  pub work : new.work ≡ old.work
  pub trace : old.trace ≡ At pause.Joins ∷ new.trace
