-- The changes that an advance makes to a state.
use Rattle.std.specs.Prelude.{◌≡◌, ◌≤◌, ◌<◌, ℕ, ◌+◌, ◌^◌, ◌==◌, if◌then◌else◌, List, [], ◌∷◌, ◌++◌, length, reverse, Option, None, Some}
use Rattle.std.specs.{Borrow.Bor, Global.Box}
use Rattle.arachne_program.specs.{declared.program.{Class.Class, Expr.Expr, Reduction.Reduction}, Effects.tabulated}
use Rattle.arachne_program.specs.Value.{Environment, apply, operation_of, with_newest}
use Rattle.arachne_machine.specs.declared.frame.Frame.{Frame, TheVariants.{FoldTurn, Join, Merge, Restore, SweepTurn}}
use Rattle.arachne_machine.specs.declared.{frame.Control.Control, state.Progress.Progress, level.Parent.Parent}
use Rattle.arachne_machine.specs.declared.frame.Control.TheVariants.{Begin, Give, Cover, Forked, Halved, Awaits, AwaitsHalf}
use Rattle.arachne_machine.specs.declared.{line.ThreadLine.ThreadLine, state.{Own.Own, State.State}}
use Rattle.arachne_machine.specs.{Lines.CountsHoldAt, Ending.{fork_awaited, here_of, locks_of, work_left}}
use Rattle.arachne_machine.specs.{Outcome.Finished, Suspended.awaited, declared.pause.Pending.Pending}
use Rattle.arachne_machine.specs.{Strands.{Fits, Strand, moved_level, moved_parents, own_line}, Sound.IsSoundState}
use Rattle.arachne_machine.specs.Steps.{AfterSteps, HasRoom, Changes, GivesChild, Goes, IsLeftOver, IsSame, LeavesOthers, Turns, pending_of, suspended, task_begun, top, waiting_in}
use Rattle.arachne_machine.specs.declared.state.Progress.TheVariants as progress
use Rattle.arachne_machine.specs.declared.line.Ran.TheVariants as ways
use Rattle.arachne_machine.specs.declared.pause.Pending.TheVariants as pause

-- the steps that these threads have left
abbrev pub works_left : List Strand → ℕ
works_left [] = 0
works_left (t ∷ ts) = work_left t + works_left ts

abbrev pub work_in_state : State → ℕ
work_in_state t = work_left (top t) + works_left (waiting_in t)

-- the last of a thread and those that wait for it
abbrev pub last_of : Strand → List Strand → Strand
last_of t [] = t
last_of t (parent ∷ parents) = last_of parent parents

-- the thread in whose place the others run
abbrev pub outermost_in : State → Strand
outermost_in t = last_of (top t) (waiting_in t)

-- no other thread runs in its place, or will
pub record IsByItself (t : State) : Type 0 where
  pub parents : t.parents.items ≡ []
  pub here : here_of (top t) ≡ []

-- The thread goes on, and no other runs in its place.
pub record GoesByItself (steps : ℕ) (old new : State) : Type 0 where
  pub alone : IsByItself new
  pub goes : Goes steps [] (top old) (top new)
  pub locks : locks_of (top new) ≡ locks_of (top old)

-- The threads of a state have made this many steps. A thread that was by itself still is, unless it has forked.
pub record Runs (steps : ℕ) (old new : State) : Type 0 where
  pub program : new.program ≡ old.program
  pub own : new.own ≡ old.own
  pub sums : new.sums.items ≡ old.sums.items
  pub sound : IsSoundState new
  pub work : work_in_state new + steps ≡ work_in_state old
  pub forks : (outermost_in old).forks ≤ (outermost_in new).forks
  pub by_itself : IsByItself old → (outermost_in new).forks ≡ (outermost_in old).forks → GoesByItself steps old new

-- A child of this number begins here with `begins`, and the innermost thread awaits it with `awaits`.
pub record BeginsHere (old new : State) (number : ℕ) (awaits begins : Control) : Type 0 where
  pub program : new.program ≡ old.program
  pub own : new.own ≡ old.own
  pub sums : new.sums.items ≡ old.sums.items
  pub environment : new.environment.items ≡ old.environment.items
  pub frames : new.frames.items ≡ old.frames.items
  pub parents : new.parents.items ≡ old.parents.items ++ record { level = old.level; control = awaits } ∷ []
  pub level : new.level ≡ record { start = length old.frames.items; forks = 0; place = length old.lines }
  pub line : ThreadLine
  pub lines : new.lines ≡ old.lines ++ line ∷ []
  pub named : line.name ≡ (top old).own.name ++ number ∷ []
  pub holds : line.holds ≡ tabulated old.program.now.locks (λ lock. 0)
  pub ran : line.ran ≡ ways.InPlace
  pub few : length new.lines < 2 ^ 63
  pub control_is : new.control ≡ begins

-- The child that ran here has ended. The innermost of the threads that wait goes on, with these newest variables and
-- frames and this next action.
pub record JoinsHere (old new : State) (variables : List ℕ) (frames : List Frame) (control : Control) : Type 0 where
  pub program : new.program ≡ old.program
  pub own : new.own ≡ old.own
  pub sums : new.sums.items ≡ old.sums.items
  pub lines : new.lines ≡ old.lines
  pub parent : Parent
  pub parents : old.parents.items ≡ new.parents.items ++ parent ∷ []
  pub level : new.level ≡ parent.level
  pub environment : new.environment.items ≡ old.environment.items ++ variables
  pub frames_are : new.frames.items ≡ old.frames.items ++ frames
  pub control_is : new.control ≡ control

-- The innermost thread waits with `awaits`, and the thread whose line is at `place`, and that has forked `forks`
-- threads, goes on.
pub record Descends (old new : State) (awaits : Control) (place forks : ℕ) : Type 0 where
  pub program : new.program ≡ old.program
  pub own : new.own ≡ old.own
  pub lines : new.lines ≡ old.lines
  pub sums : new.sums.items ≡ old.sums.items
  pub environment : new.environment.items ≡ old.environment.items
  pub frames : new.frames.items ≡ old.frames.items
  pub parents : new.parents.items ≡ old.parents.items ++ record { level = old.level; control = awaits } ∷ []
  pub level : new.level ≡ record { start = length old.frames.items; forks = forks; place = place }
  pub control_is : new.control ≡ old.control

-- The innermost of the threads that wait awaits a child that runs here.
pub record HasParent (t : State) : Type 0 where
  pub others : List Parent
  pub parent : Parent
  pub parents : t.parents.items ≡ others ++ parent ∷ []
  pub number : ℕ
  pub awaits : fork_awaited parent.control ≡ number ∷ []

-- A child that ran here has ended with this value, and its parent goes on: with the expression after the join, or with
-- the result of the two halves, which is handed on in a step of its own.
abbrev pub ResumesParent : State → ℕ → ℕ → Progress → ℕ → State → Type 0
ResumesParent old value had (progress.Begin next) left new =
    (number during : ℕ) × (j : JoinsHere old new (value ∷ during ∷ []) (Restore (length old.environment.items) ∷ []) old.control)
    × (j.parent.control ≡ Awaits number during next) × (left ≡ had)
ResumesParent old value had (progress.Value result) left new =
    (number right : ℕ) × (reduction : Reduction) × (j : JoinsHere old new [] [] old.control)
    × (j.parent.control ≡ AwaitsHalf number right reduction) × (result ≡ apply (operation_of reduction) value right) × (left + 1 ≡ had)
ResumesParent old value had progress.Goes left new =
    (number right : ℕ) × (reduction : Reduction) × (j : JoinsHere old new [] [] (Give (apply (operation_of reduction) value right)))
    × (j.parent.control ≡ AwaitsHalf number right reduction) × (left ≡ had) × (had ≡ 0)
ResumesParent old value had _ left new = ⊥

-- This value is handed on in a step of its own: at once if a step is left, else later.
abbrev pub HandsResult : State → ℕ → ℕ → Progress → ℕ → State → Type 0
HandsResult old value had (progress.Value result) left new = (result ≡ value) × (left + 1 ≡ had) × IsSame old new
HandsResult old value had progress.Goes left new = (left ≡ had) × (had ≡ 0) × Turns old new (Give value)
HandsResult old value had _ left new = ⊥

-- the next action after a fork whose child has been taken
abbrev pub after_fork : Control → Control
after_fork (Forked during) = Begin during
after_fork (Halved right) = Cover right
after_fork k = k

-- A hold of this lock was counted in the innermost thread's line.
abbrev pub IsCountedIn : List Parent → Own → Own → List ThreadLine → List ThreadLine → ℕ → ℕ → Type 0
IsCountedIn [] old new lines written place lock =
    (written ≡ lines) × (new.name ≡ old.name) × (new.label ≡ old.label)
    × ((n : ℕ) (own : ℕ → ℕ) → old.holds.items ≡ tabulated n own → new.holds.items ≡ tabulated n (λ other. own other + (if other == lock then 1 else 0)))
IsCountedIn (parent ∷ parents) old new lines written place lock = (new ≡ old) × CountsHoldAt lines written place lock

pub record CountsHold (old new : State) (lock : ℕ) : Type 0 where
  pub program : new.program ≡ old.program
  pub sums : new.sums.items ≡ old.sums.items
  pub parents : new.parents.items ≡ old.parents.items
  pub level : new.level ≡ old.level
  pub environment : new.environment.items ≡ old.environment.items
  pub frames : new.frames.items ≡ old.frames.items
  pub control : new.control ≡ old.control
  pub counted : IsCountedIn (reverse old.parents.items) old.own new.own old.lines new.lines old.level.place lock

-- an amount was added to the sum for this ledger
pub record CountsTally (old new : State) (ledger amount : ℕ) : Type 0 where
  pub program : new.program ≡ old.program
  pub own : new.own ≡ old.own
  pub lines : new.lines ≡ old.lines
  pub parents : new.parents.items ≡ old.parents.items
  pub level : new.level ≡ old.level
  pub environment : new.environment.items ≡ old.environment.items
  pub frames : new.frames.items ≡ old.frames.items
  pub control : new.control ≡ old.control
  pub sums : (n : ℕ) (own : ℕ → ℕ) → old.sums.items ≡ tabulated n own → new.sums.items ≡ tabulated n (λ other. own other + (if other == ledger then amount else 0))

-- the state that hands on this value next
abbrev pub giving_in : State → ℕ → State
giving_in t value = record t { control = Give value }

-- the state that begins this expression next
abbrev pub beginning_in : State → Bor Expr → State
beginning_in t expr = record t { control = Begin expr }

-- the state, which begins this expression next if there is one
abbrev pub current_in : Option (Bor Expr) → State → State
current_in None t = t
current_in (Some expr) t = beginning_in t expr

-- the state with the next action that a part of a step has given
abbrev pub seen_in : Progress → State → State
seen_in (progress.Value value) t = giving_in t value
seen_in (progress.Begin expr) t = beginning_in t expr
seen_in _ t = t

-- One step was made, and the thread has not paused. If the step gives a value, one more step hands it on.
abbrev pub IsOneStep : ℕ → ℕ → Progress → State → Type 0
IsOneStep had left (progress.Value value) new = left + 1 ≡ had
IsOneStep had left (progress.Begin expr) new = left ≡ had
IsOneStep had left progress.Goes new = (left ≡ had) × IsLeftOver new.control
IsOneStep had left _ new = ⊥

-- The first state has this newest frame, and the second is the same without it.
abbrev pub IsPoppedIn : Frame → State → State → Type 0
IsPoppedIn frame before popped = Changes popped before popped.environment.items (popped.frames.items ++ frame ∷ []) popped.control

-- A fold over the numbers from `next` to below `end`, whose value so far is this, goes on: it begins an iteration, or
-- ends.
pub record FoldsOn (old new : State) (next end : ℕ) (body : Bor Expr) (so_far : ℕ) : Type 0 where
  pub turn : next < end →
      Changes old new (with_newest (with_newest old.environment.items next) so_far) (old.frames.items ++ FoldTurn (next + 1) end body ∷ []) (Begin body)
  pub done : end ≤ next → Turns old new (Give so_far)

-- A sweep goes on in the same way.
pub record SweepsOn (old new : State) (reduction : Reduction) (next end : ℕ) (body : Bor Expr) (so_far : ℕ) : Type 0 where
  pub turn : next < end →
      Changes old new (with_newest old.environment.items next) (old.frames.items ++ SweepTurn reduction (next + 1) end so_far body ∷ []) (Begin body)
  pub done : end ≤ next → Turns old new (Give so_far)

-- The threads of a state have made `had - left` steps, and `beside` more, and none has paused. If Q holds, no child was
-- placed.
pub record RunsOn (Q : Type 0) (had left beside : ℕ) (old new : State) : Type 0 where
  pub made : ℕ
  pub fewer : left ≤ had
  pub counted : left + made ≡ had + beside
  pub runs : Runs made old new
  pub running : pending_of new.control ≡ None
  pub places_none : Q → IsByItself old → (outermost_in new).forks ≡ (outermost_in old).forks

-- Like `RunsOn`, and then the innermost thread has paused in this way, in one more step.
pub record RunsToPause (Q : Type 0) (had left : ℕ) (old : State) (next : Pending) (new : State) : Type 0 where
  pub last : State
  pub runs : RunsOn Q had left 0 old last
  pub leaves : LeavesOthers last new
  pub stops : AfterSteps 1 (top last) (Some next) (top new)
  pub ended : next ≡ pause.Ended → new.parents.items ≡ []
  -- a frame was taken off for the join
  pub room : next ≡ pause.Joins → HasRoom new

-- Like `RunsOn`, and then the innermost thread has forked this child, in one more step.
pub record RunsToFork (Q : Type 0) (had left : ℕ) (old : State) (class : Class) (child new : State) : Type 0 where
  pub last : State
  pub runs : RunsOn Q had left 0 old last
  pub leaves : LeavesOthers last new
  pub gives : GivesChild 1 (top last) (top new) (top child) (record { class = class; task = task_begun child.control child.environment.items })
  pub sound : IsSoundState child
  pub alone : child.parents.items ≡ []
  pub sums : child.sums.items ≡ tabulated last.program.now.ledgers (λ ledger. 0)

-- The result of a part of a step. Beside this step, `had` steps were left before it, and `left` after it. It is a value
-- that the same step has to hand on, or the next action once the step has been made.
abbrev pub Comes : Type 0 → ℕ → ℕ → State → Progress → State → Type 0
Comes Q had left old (progress.Value value) new = RunsOn Q had left 0 old (giving_in new value)
Comes Q had left old (progress.Begin expr) new = RunsOn Q had left 1 old (beginning_in new expr)
Comes Q had left old progress.Goes new = RunsOn Q had left 1 old new × IsLeftOver new.control
Comes Q had left old progress.Stops new = (next : Pending) × RunsToPause Q had left old next new
Comes Q had left old (progress.Forks class child) new = RunsToFork Q had left old class child.value new

-- The result of an advance, given the child that was forked and the pending pause. All steps were made, or else at
-- least one.
abbrev pub Advances : Type 0 → ℕ → ℕ → State → Option (Class × Box State) → Option Pending → State → Type 0
Advances Q had left old None None new = RunsOn Q had left 0 old new × (left ≡ 0)
Advances Q had left old None (Some next) new = (beside : ℕ) × (had ≡ beside + 1) × RunsToPause Q beside left old next new
Advances Q had left old (Some forked) pending new = (beside : ℕ) × (had ≡ beside + 1) × RunsToFork Q beside left old forked.0 forked.1.value new

-- The innermost thread has joined a child that ended with this value, and goes on.
abbrev pub ResumesAs : Control → Environment → List Frame → ℕ → State → Type 0
ResumesAs (Awaits number during next) env frames value new =
    (new.environment.items ≡ env ++ value ∷ during ∷ []) × (new.frames.items ≡ frames ++ Restore (length env) ∷ []) × (new.control ≡ Begin next)
ResumesAs (AwaitsHalf number right reduction) env frames value new =
    (new.environment.items ≡ env) × (new.frames.items ≡ frames) × (new.control ≡ Give (apply (operation_of reduction) value right))
ResumesAs _ env frames value new = ⊥

-- All but the innermost thread's environment, frames and next action is unchanged.
pub record KeepsRest (old new : State) : Type 0 where
  pub program : new.program ≡ old.program
  pub own : new.own ≡ old.own
  pub lines : new.lines ≡ old.lines
  pub sums : new.sums.items ≡ old.sums.items
  pub parents : new.parents.items ≡ old.parents.items
  pub level : new.level ≡ old.level

-- The innermost thread has joined this outcome, which is that of the child that it awaited.
pub record JoinsOutcome (old : State) (outcome : Finished) (new : State) : Type 0 where
  pub of_child : awaited (suspended (top old)) ≡ Some outcome.name
  pub some : 1 ≤ length outcome.lines
  pub lines : new.lines ≡ old.lines ++ outcome.lines
  pub few : length new.lines < 2 ^ 63
  pub sums : (n : ℕ) (own others : ℕ → ℕ) → old.sums.items ≡ tabulated n own → outcome.sums ≡ tabulated n others → new.sums.items ≡ tabulated n (λ ledger. own ledger + others ledger)
  pub program : new.program ≡ old.program
  pub own : new.own ≡ old.own
  pub parents : new.parents.items ≡ old.parents.items
  pub level : new.level ≡ old.level
  pub resumes : ResumesAs old.control old.environment.items old.frames.items outcome.value new

-- The other state may go on in this one: it has as many sums, and its frames and lines lie where its levels say.
pub record FitsInto (t child : State) : Type 0 where
  pub sums : length child.sums.items ≡ length t.sums.items
  pub fits : Fits (reverse child.parents.items) child.level.start child.level.place (length child.frames.items) (length child.lines)

-- The innermost thread waits, and the levels of the other state were added. Their frames come behind those that are
-- here, and their lines are from `place` on.
pub record TakesLevels (old child new : State) (place : ℕ) : Type 0 where
  pub others : new ≡ record old { parents = new.parents; level = new.level }
  pub parents : reverse new.parents.items ≡ moved_parents (length old.frames.items) place (reverse child.parents.items) ++ record { level = old.level; control = old.control } ∷ reverse old.parents.items
  pub level : new.level ≡ moved_level (length old.frames.items) place (reverse child.parents.items) child.level

-- The child of the other state, which the innermost thread awaits, goes on in this one, with the threads that run in
-- its place.
pub record TakesIn (old child new : State) : Type 0 where
  pub program : new.program ≡ old.program
  pub own : new.own ≡ old.own
  pub lines : new.lines ≡ old.lines ++ record (own_line child.own) { ran = ways.InPlace } ∷ child.lines
  pub few : length new.lines < 2 ^ 63
  pub sums : (n : ℕ) (own others : ℕ → ℕ) → old.sums.items ≡ tabulated n own → child.sums.items ≡ tabulated n others → new.sums.items ≡ tabulated n (λ ledger. own ledger + others ledger)
  pub parents : reverse new.parents.items ≡ moved_parents (length old.frames.items) (length old.lines) (reverse child.parents.items) ++ record { level = old.level; control = old.control } ∷ reverse old.parents.items
  pub level : new.level ≡ moved_level (length old.frames.items) (length old.lines) (reverse child.parents.items) child.level
  pub environment : new.environment.items ≡ child.environment.items
  pub frames : new.frames.items ≡ old.frames.items ++ child.frames.items
  pub control_is : new.control ≡ child.control

-- Both look the same to callers. Capacities may differ.
pub record LooksSame (old new : State) : Type 0 where
  pub program : new.program ≡ old.program
  pub own : own_line new.own ≡ own_line old.own
  pub lines : new.lines ≡ old.lines
  pub sums : new.sums.items ≡ old.sums.items
  pub parents : new.parents.items ≡ old.parents.items
  pub level : new.level ≡ old.level
  pub environment : new.environment.items ≡ old.environment.items
  pub frames : new.frames.items ≡ old.frames.items
  pub control : new.control ≡ old.control

-- The thread stands before the step in which it began to await a child.
abbrev pub StandsBefore : Control → State → State → Type 0
StandsBefore (Awaits number during next) old new = Changes old new old.environment.items (old.frames.items ++ Join number next ∷ []) (Give during)
StandsBefore (AwaitsHalf number right reduction) old new = Changes old new old.environment.items (old.frames.items ++ Merge number reduction ∷ []) (Give right)
StandsBefore _ old new = ⊥
