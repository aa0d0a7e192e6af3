-- The changes that a thread's steps make to it.
use Rattle.std.specs.Prelude.{◌≡◌, ◌≤◌, ◌<◌, ℕ, ◌+◌, ◌^◌, false, List, [], ◌∷◌, ◌++◌, length, reverse, take, vec_len, vec_capacity, Option, None, Some}
use Rattle.std.specs.Borrow.{Bor}
use Rattle.arachne_program.specs.declared.program.{Program.Program, Class.Class, Reduction.Reduction, Expr.Expr}
use Rattle.arachne_program.specs.{Tree.Number, Program.{source_of, tree_of}, Value.{Environment, with_newest}}
use Rattle.arachne_program.specs.Effects.{Task, Evaluate, Child, Effects, task_value, task_effects, tabulated}
use Rattle.arachne_program.specs.Meaning.{task_of}
use Rattle.arachne_machine.specs.declared.{frame.{Frame.Frame, Control.Control}, pause.Pending.Pending, state.Own.Own}
use Rattle.arachne_machine.specs.declared.frame.Frame.TheVariants.{FoldTo, FoldFirst, FoldStart, FoldTurn, SweepTo, SweepStart, SweepTurn, Amount, Release, Join, Merge, JoinHere, MergeHere}
use Rattle.arachne_machine.specs.declared.frame.Control.TheVariants.{Begin, Give, Cover, Forked, Halved, Awaits, AwaitsHalf, Asks, Frees, Tallies, Ended}
use Rattle.arachne_machine.specs.declared.{state.{State.State, Progress.Progress}, level.Parent.Parent}
use Rattle.arachne_machine.specs.{declared.line.{Label.Label, ThreadLine.ThreadLine}, Lines.Gains, Outcome.Finished}
use Rattle.arachne_machine.specs.{Strands.{Owned, Strand, strand_at}, Account.{Account, untouched, after, with_fork}}
use Rattle.arachne_machine.specs.{Suspended.Suspended, Work.task_work, Trace.{Event, At, with_steps, task_trace}}
use Rattle.arachne_machine.specs.Faultless.{IsFaultlessNext, IsWithoutFault}
use Rattle.arachne_machine.specs.Ending.{child_task, stretch_task, account_joined, ending, account_at_end, work_left, trace_left, unjoined_of, here_of, locks_of, fork_awaited, environment_of, KeepsForks}
use Rattle.arachne_machine.specs.declared.pause.Pending.TheVariants as pause
use Rattle.arachne_machine.specs.declared.state.Progress.TheVariants as part
use Rattle.arachne_machine.specs.declared.line.Ran.TheVariants as ways

-- the pending pause: the one that is not answered yet
abbrev pub pending_of : Control → Option Pending
pending_of (Begin expr) = None
pending_of (Give value) = None
pending_of (Cover stretch) = None
pending_of (Forked expr) = Some pause.Forks
pending_of (Halved stretch) = Some pause.Forks
pending_of (Awaits number during next) = Some pause.Joins
pending_of (AwaitsHalf number right reduction) = Some pause.Joins
pending_of (Asks lock body) = Some (pause.Asks lock)
pending_of (Frees lock value) = Some (pause.Frees lock)
pending_of (Tallies ledger amount body) = Some (pause.Tallies ledger amount)
pending_of (Ended value) = Some pause.Ended

-- the view that callers have of a thread
abbrev pub suspended : Strand → Suspended
suspended t = record {
  program = t.program.now;
  name = t.own.name;
  label = t.own.label;
  forks = t.forks;
  unjoined = unjoined_of t;
  here = here_of t;
  locks = locks_of t;
  pending = pending_of t.control;
  holds = t.own.holds;
  below = t.below;
  work = work_left t;
  trace = trace_left t;
}

-- The number of the next fork stays in range: each fork that was joined has its line, and each other one its frame.
abbrev pub IsNumbered : Strand → Type 0
IsNumbered t = (t.forks ≤ length t.below + length (unjoined_of t)) × (length t.below < 2 ^ 63)

-- a thread may begin with this action
abbrev pub IsBeginning : Control → Type 0
IsBeginning (Begin expr) = Unit {0}
IsBeginning (Cover stretch) = Unit {0}
IsBeginning _ = ⊥

-- the task of a thread that begins with this action
abbrev pub task_begun : Control → Environment → Task
task_begun (Begin expr) env = Evaluate (tree_of expr.now) env
task_begun (Cover stretch) env = stretch_task stretch env
task_begun _ env = Evaluate (Number 0) env

-- the innermost thread of a state, with this environment
abbrev pub top : State → Strand
top t = strand_at t.program t.own (reverse t.parents.items) t.lines t.level t.environment.items t.frames.items t.control

-- The threads that wait, the innermost first. The frames and the lines of the one that they wait for begin at `start`
-- and `place`, and it leaves the environment `env`. Each goes on in the environment that the one in its place leaves.
abbrev pub waiting : Bor Program → Own → List Parent → List ThreadLine → List Frame → ℕ → ℕ → Environment → List Strand
waiting program own [] lines frames start place env = []
waiting program own (parent ∷ parents) lines frames start place env =
    let t = strand_at program own parents (take place lines) parent.level env (take start frames) parent.control in
    t ∷ waiting program own parents (take place lines) (take start frames) parent.level.start parent.level.place (ending t).env

abbrev pub waiting_in : State → List Strand
waiting_in t =
    waiting t.program t.own (reverse t.parents.items) t.lines t.frames.items t.level.start t.level.place (ending (top t)).env

-- The environment, all frames and the next action are now these. All else but capacities is unchanged.
pub record Changes (old new : State) (environment : Environment) (frames : List Frame) (control : Control) : Type 0 where
  pub program : new.program ≡ old.program
  pub own : new.own ≡ old.own
  pub lines : new.lines ≡ old.lines
  pub sums : new.sums.items ≡ old.sums.items
  pub parents : new.parents.items ≡ old.parents.items
  pub level : new.level ≡ old.level
  pub environment_is : new.environment.items ≡ environment
  pub frames_are : new.frames.items ≡ frames
  pub control_is : new.control ≡ control

-- the innermost thread's line exists
abbrev pub IsLineOf : List Parent → ℕ → ℕ → Type 0
IsLineOf [] place lines = Unit {0}
IsLineOf (parent ∷ parents) place lines = place < lines

abbrev pub HasLine : State → Type 0
HasLine t = IsLineOf (reverse t.parents.items) t.level.place (length t.lines)

-- nothing has changed but capacities
abbrev pub IsSame : State → State → Type 0
IsSame old new = Changes old new old.environment.items old.frames.items old.control

-- one frame was pushed
abbrev pub Pushes : State → State → Frame → Type 0
Pushes old new frame = Changes old new old.environment.items (old.frames.items ++ frame ∷ []) old.control

-- only the next action has changed
abbrev pub Turns : State → State → Control → Type 0
Turns old new control = Changes old new old.environment.items old.frames.items control

-- The innermost thread has made a fork: it has this frame more, and this next action.
pub record CountsFork (old new : State) (frame : Frame) (control : Control) : Type 0 where
  pub program : new.program ≡ old.program
  pub own : new.own ≡ old.own
  pub lines : new.lines ≡ old.lines
  pub sums : new.sums.items ≡ old.sums.items
  pub parents : new.parents.items ≡ old.parents.items
  pub level : new.level ≡ record old.level { forks = old.level.forks + 1 }
  pub environment : new.environment.items ≡ old.environment.items
  pub frames : new.frames.items ≡ old.frames.items ++ frame ∷ []
  pub control_is : new.control ≡ control

-- Only the innermost thread has changed.
pub record LeavesOthers (old new : State) : Type 0 where
  pub program : new.program ≡ old.program
  pub own : new.own ≡ old.own
  pub lines : new.lines ≡ old.lines
  pub sums : new.sums.items ≡ old.sums.items
  pub parents : new.parents.items ≡ old.parents.items
  pub start : new.level.start ≡ old.level.start
  pub place : new.level.place ≡ old.level.place
  pub frames : take old.level.start new.frames.items ≡ take old.level.start old.frames.items
  pub more : old.level.start ≤ length new.frames.items

-- The environment, the frames and the next action are now these. All else is unchanged.
pub record Becomes (old new : Strand) (environment : Environment) (frames : List Frame) (control : Control) : Type 0 where
  pub program : new.program ≡ old.program
  pub own : new.own ≡ old.own
  pub below : new.below ≡ old.below
  pub forks : new.forks ≡ old.forks
  pub environment_is : new.environment ≡ environment
  pub frames_are : new.frames ≡ frames
  pub control_is : new.control ≡ control

-- nothing has changed
abbrev pub IsUnchanged : Strand → Strand → Type 0
IsUnchanged old new = Becomes old new old.environment old.frames old.control

-- a part was begun, with a frame for what comes after it
abbrev pub Enters : Strand → Strand → Frame → Control → Type 0
Enters old new frame control = Becomes old new old.environment (old.frames ++ frame ∷ []) control

-- The first thread has this newest frame, and the second is the same without it.
abbrev pub IsPopped : Frame → Strand → Strand → Type 0
IsPopped frame before popped = Becomes popped before popped.environment (popped.frames ++ frame ∷ []) popped.control

-- A fold over the numbers from `next` to below `end`, whose value so far is this, goes on: it begins an iteration, or
-- ends.
pub record TurnsFold (old new : Strand) (next end : ℕ) (body : Bor Expr) (so_far : ℕ) : Type 0 where
  pub turn : next < end →
      Becomes old new (with_newest (with_newest old.environment next) so_far) (old.frames ++ FoldTurn (next + 1) end body ∷ []) (Begin body)
  pub done : end ≤ next → Becomes old new old.environment old.frames (Give so_far)

-- A sweep goes on in the same way.
pub record TurnsSweep (old new : Strand) (reduction : Reduction) (next end : ℕ) (body : Bor Expr) (so_far : ℕ) : Type 0 where
  pub turn : next < end →
      Becomes old new (with_newest old.environment next) (old.frames ++ SweepTurn reduction (next + 1) end so_far body ∷ []) (Begin body)
  pub done : end ≤ next → Becomes old new old.environment old.frames (Give so_far)

-- The thread has made this many steps, without a fork or a join, and its result is unchanged. The pauses `answered`,
-- which followed, have been answered.
pub record Goes (steps : ℕ) (answered : List Event) (old new : Strand) : Type 0 where
  pub program : new.program ≡ old.program
  pub own : new.own ≡ old.own
  pub below : new.below ≡ old.below
  pub forks : new.forks ≡ old.forks
  pub unjoined : unjoined_of new ≡ unjoined_of old
  pub here : here_of new ≡ here_of old
  pub ending : ending new ≡ ending old
  pub account : (account : Account) → account_at_end new account ≡ account_at_end old account
  pub work : work_left new + steps ≡ work_left old
  pub trace : with_steps steps (answered ++ trace_left new) ≡ trace_left old
  pub faultless : IsWithoutFault old → IsWithoutFault new
  pub keeps : KeepsForks old → KeepsForks new

-- at least `least` such steps were made, and at most `most`, and no pause was answered
pub record GoesWithin (least most : ℕ) (old new : Strand) : Type 0 where
  pub made : ℕ
  pub at_least : least ≤ made
  pub at_most : made ≤ most
  pub goes : Goes made [] old new

-- the state of a thread that has not begun, with no other in its place, and with these data of its own
pub record IsRenewed (program : Bor Program) (own : Own) (sums : List ℕ) (control : Control) (environment : Environment) (t : State) : Type 0 where
  pub program_is : t.program ≡ program
  pub own_is : t.own ≡ own
  pub lines : t.lines ≡ []
  pub sums_are : t.sums.items ≡ sums
  pub parents : t.parents.items ≡ []
  pub level : t.level ≡ record { start = 0; forks = 0; place = 0 }
  pub environment_is : t.environment.items ≡ environment
  pub frames : t.frames.items ≡ []
  pub control_is : t.control ≡ control

-- the thread has not begun, and has these data
pub record HasNotBegun (program : Bor Program) (own : Owned) (control : Control) (environment : Environment) (t : Strand) : Type 0 where
  pub program_is : t.program ≡ program
  pub own_is : t.own ≡ own
  pub below : t.below ≡ []
  pub forks : t.forks ≡ 0
  pub environment_is : t.environment ≡ environment
  pub frames : t.frames ≡ []
  pub control_is : t.control ≡ control

-- the label of a thread that was forked and has no tag yet
abbrev pub untagged : Label
untagged = record { tag = 0; ran = ways.Slot }

-- a child of the innermost thread's next fork, in a state of its own, that begins with `begins`
pub record IsSpawned (old : State) (begins : Control) (child : State) : Type 0 where
  pub renewed : IsRenewed old.program child.own child.sums.items begins old.environment.items child
  pub named : child.own.name ≡ (top old).own.name ++ old.level.forks ∷ []
  pub label : child.own.label ≡ untagged
  pub holds : child.own.holds.items ≡ tabulated old.program.now.locks (λ lock. 0)
  pub sums : child.sums.items ≡ tabulated old.program.now.ledgers (λ ledger. 0)

-- a child of this class was forked, and has the property P
abbrev pub IsForkOf : Progress → Class → (State → Type 0) → Type 0
IsForkOf (part.Forks given child) class P = (given ≡ class) × P child.value
IsForkOf _ class P = ⊥

-- a thread of a task that has not begun
pub record IsNew (program : Program) (name : List ℕ) (label : Label) (task : Task) (t : Strand) : Type 0 where
  pub same_program : t.program.now ≡ program
  pub has_name : t.own.name ≡ name
  pub has_label : t.own.label ≡ label
  pub holds : t.own.holds ≡ tabulated program.locks (λ lock. 0)
  pub below : t.below ≡ []
  pub forks : t.forks ≡ 0
  pub unjoined : unjoined_of t ≡ []
  pub here : here_of t ≡ []
  pub locks : locks_of t ≡ []
  pub pending : pending_of t.control ≡ None
  pub work : work_left t ≡ task_work (source_of program).arrays task
  pub trace : trace_left t ≡ task_trace (source_of program).arrays task ++ At pause.Ended ∷ []
  pub value : (ending t).value ≡ task_value (source_of program).arrays task
  pub environment : (ending t).env ≡ environment_of task
  pub keeps : KeepsForks t
  pub account : account_at_end t untouched ≡ after name (task_effects (source_of program).arrays program.locks task) untouched

-- The result of the thread is unchanged, if the child is counted with it until the join. It has made at least one step
-- and at most `steps`, and `handed` of its steps now belong to another state.
pub record KeepsOverFork (steps handed : ℕ) (answered : List Event) (old new : Strand) (made : Child) : Type 0 where
  pub ending : ending new ≡ ending old
  pub account : (account : Account) → length account.children ≡ old.forks → account_at_end new (with_fork made account) ≡ account_at_end old account
  pub taken : ℕ
  pub at_least : 1 ≤ taken
  pub at_most : taken ≤ steps
  pub work : work_left new + handed + taken ≡ work_left old
  pub trace : with_steps taken (answered ++ trace_left new) ≡ trace_left old
  pub faultless : IsWithoutFault old → IsWithoutFault new
  pub keeps : KeepsForks old → KeepsForks new

-- The thread has made at most `steps` steps, the last of which was a fork. Its result is unchanged, if the child is the
-- one that the program has for the fork's number. The fork was one of those that it still had to make. `here` has the
-- fork's number if the child will run here.
pub record GoesToFork (steps handed : ℕ) (answered : List Event) (here : List ℕ) (old new : Strand) (made : Child) : Type 0 where
  pub program : new.program ≡ old.program
  pub own : new.own ≡ old.own
  pub below : new.below ≡ old.below
  pub forks : new.forks ≡ old.forks + 1
  pub unjoined : unjoined_of new ≡ old.forks ∷ unjoined_of old
  pub here_is : here_of new ≡ here ++ here_of old
  pub locks : locks_of new ≡ locks_of old
  pub next_child : (account : Account) → (rest : List Child) × ((account_at_end old account).children ≡ account.children ++ made ∷ rest)
  pub keeps : task_of (source_of old.program.now) (old.own.name ++ old.forks ∷ []) ≡ Some made.task → KeepsOverFork steps handed answered old new made

-- The child was made in a state of its own, and the fork is a pause.
pub record GivesChild (steps : ℕ) (old new child : Strand) (made : Child) : Type 0 where
  pub forked : GoesToFork steps (work_left child) [] [] old new made
  pub pending : pending_of new.control ≡ Some pause.Forks
  pub fresh : IsNew old.program.now (old.own.name ++ old.forks ∷ []) untagged made.task child
  pub faultless : IsWithoutFault old → IsWithoutFault child

-- The child will run here, and the fork is no pause.
pub record PlacesChild (steps : ℕ) (old new : Strand) (made : Child) : Type 0 where
  pub forked : GoesToFork steps 0 (At pause.Forks ∷ []) (old.forks ∷ []) old new made
  pub pending : pending_of new.control ≡ None

-- The result of this many steps without a fork. The thread has made all of them; or it has paused in one of them, at
-- the latest in the last.
abbrev pub AfterSteps : ℕ → Strand → Option Pending → Strand → Type 0
AfterSteps steps old None new = Goes steps [] old new × (pending_of new.control ≡ None) × (locks_of new ≡ locks_of old)
AfterSteps steps old (Some pause.Forks) new = ⊥
AfterSteps steps old (Some pause.Joins) new = GoesWithin 1 steps old new × (pending_of new.control ≡ Some pause.Joins) × (locks_of new ≡ locks_of old)
AfterSteps steps old (Some (pause.Asks lock)) new =
    GoesWithin 1 steps old new × (pending_of new.control ≡ Some (pause.Asks lock)) × (locks_of new ≡ lock ∷ locks_of old)
AfterSteps steps old (Some (pause.Frees lock)) new =
    GoesWithin 1 steps old new × (pending_of new.control ≡ Some (pause.Frees lock)) × (locks_of new ≡ locks_of old)
    × ((others : List ℕ) × (locks_of new ≡ lock ∷ others))
AfterSteps steps old (Some (pause.Tallies ledger amount)) new =
    GoesWithin 1 steps old new × (pending_of new.control ≡ Some (pause.Tallies ledger amount)) × (locks_of new ≡ locks_of old)
AfterSteps steps old (Some pause.Ended) new =
    GoesWithin 1 steps old new × (pending_of new.control ≡ Some pause.Ended) × (unjoined_of new ≡ []) × (locks_of new ≡ locks_of old) × (locks_of new ≡ [])
    × (work_left new ≡ 0)

-- the thread that hands on this value next
abbrev pub giving : Strand → ℕ → Strand
giving t value = record t { control = Give value }

-- the thread that begins this expression next
abbrev pub beginning : Strand → Bor Expr → Strand
beginning t expr = record t { control = Begin expr }

-- a value that was left over, or a part of a sweep
abbrev pub IsLeftOver : Control → Type 0
IsLeftOver (Give value) = Unit {0}
IsLeftOver (Cover stretch) = Unit {0}
IsLeftOver _ = ⊥

-- The thread has made `had - left` steps, and `beside` more, and has not paused.
pub record Makes (had left beside : ℕ) (old new : Strand) : Type 0 where
  pub made : ℕ
  pub fewer : left ≤ had
  pub counted : left + made ≡ had + beside
  pub goes : AfterSteps made old None new

-- The first thread comes to the point at which a fold of the second goes on from this number with this value so far,
-- with `left` steps left.
abbrev pub ComesToFold : Strand → Strand → ℕ → ℕ → ℕ → ℕ → Bor Expr → ℕ → Type 0
ComesToFold before t had left next end body so_far = (on : Strand) → TurnsFold t on next end body so_far → Makes had left 1 before on

-- The first thread comes to the point at which a sweep of the second goes on.
abbrev pub ComesToSweep : Strand → Strand → ℕ → ℕ → Reduction → ℕ → ℕ → Bor Expr → ℕ → Type 0
ComesToSweep before t had left reduction next end body so_far = (on : Strand) → TurnsSweep t on reduction next end body so_far → Makes had left 1 before on

-- the pause is not the thread's end
abbrev pub IsNotEnd : Pending → Type 0
IsNotEnd pause.Ended = ⊥
IsNotEnd _ = Unit {0}

-- The result of a part of a step of one thread. Beside this step, `had` steps were left before it, and `left` after it.
-- It is a value that the same step has to hand on, or the next action once the step has been made.
abbrev pub Reaches : ℕ → ℕ → Strand → Progress → Strand → Type 0
Reaches had left old (part.Value value) new = Makes had left 0 old (giving new value)
Reaches had left old (part.Begin expr) new = Makes had left 1 old (beginning new expr)
Reaches had left old part.Goes new = Makes had left 1 old new × IsLeftOver new.control
Reaches had left old part.Stops new = (left ≡ had) × ((next : Pending) × IsNotEnd next × AfterSteps 1 old (Some next) new)
Reaches had left old (part.Forks class child) new = ⊥

abbrev pub OnStops : Progress → Type 0 → Type 0
OnStops part.Stops A = A
OnStops _ A = Unit {0}

-- there is room for one more frame
abbrev pub HasRoom : State → Type 0
HasRoom t = vec_len t.frames + 1 ≤ vec_capacity t.frames

abbrev pub OnValue : Progress → Type 0 → Type 0
OnValue (part.Value value) A = A
OnValue _ A = Unit {0}

-- the thread has made a fork, and has this newest frame and this next action
pub record PushesFork (old new : Strand) (frame : Frame) (control : Control) : Type 0 where
  pub program : new.program ≡ old.program
  pub own : new.own ≡ old.own
  pub below : new.below ≡ old.below
  pub forks : new.forks ≡ old.forks + 1
  pub environment : new.environment ≡ old.environment
  pub frames : new.frames ≡ old.frames ++ frame ∷ []
  pub control_is : new.control ≡ control

-- the thread has made a fork, and its child begins with `begins`
pub record SpawnsChild (old new child : Strand) (begins : Control) (frame : Frame) (control : Control) : Type 0 where
  pub pushed : PushesFork old new frame control
  pub fresh : IsNew old.program.now (old.own.name ++ old.forks ∷ []) untagged (task_begun begins old.environment) child
  pub begun : task_begun child.control child.environment ≡ task_begun begins old.environment
  pub faultless : IsFaultlessNext (source_of old.program.now) false begins → IsWithoutFault child

-- A value was handed to the frame of a child that will run here. The child is awaited now, and its `handed` steps are
-- no longer counted as its parent's.
pub record AwaitsHere (number handed : ℕ) (old new : Strand) : Type 0 where
  pub program : new.program ≡ old.program
  pub own : new.own ≡ old.own
  pub below : new.below ≡ old.below
  pub forks : new.forks ≡ old.forks
  pub unjoined : unjoined_of new ≡ unjoined_of old
  pub here : here_of old ≡ number ∷ here_of new
  pub locks : locks_of new ≡ locks_of old
  pub pending : pending_of new.control ≡ Some pause.Joins
  pub awaited_is : fork_awaited new.control ≡ number ∷ []
  pub ending : ending new ≡ ending old
  pub account : (account : Account) → account_at_end new account ≡ account_at_end old account
  pub work : work_left new + handed + 1 ≡ work_left old
  pub trace : with_steps 1 (trace_left new) ≡ trace_left old
  pub faultless : IsWithoutFault old → IsWithoutFault new
  pub keeps : KeepsForks old → KeepsForks new

-- The result of the thread is unchanged, now that the child of this number is counted.
pub record KeepsOverJoin (old new : Strand) (number : ℕ) : Type 0 where
  pub ending : ending new ≡ ending old
  pub account : (account : Account) → account_at_end new (account_joined (source_of old.program.now) old.own.name number account) ≡ account_at_end old account
  pub work : work_left new ≡ work_left old
  pub trace : At pause.Joins ∷ trace_left new ≡ trace_left old
  pub faultless : IsWithoutFault old → IsWithoutFault new
  pub keeps : KeepsForks old → KeepsForks new

-- The awaited child was joined. The result of the thread is unchanged, if the child has brought the value of its task.
pub record Joins (old : Strand) (outcome : Finished) (new : Strand) : Type 0 where
  pub program : new.program ≡ old.program
  pub own : new.own ≡ old.own
  pub forks : new.forks ≡ old.forks
  pub pending : pending_of new.control ≡ None
  pub number : ℕ
  pub name : outcome.name ≡ old.own.name ++ number ∷ []
  pub unjoined : unjoined_of old ≡ number ∷ unjoined_of new
  pub here : here_of new ≡ here_of old
  pub locks : locks_of new ≡ locks_of old
  pub below : Gains old.below outcome.lines new.below
  pub keeps : outcome.value ≡ task_value (source_of old.program.now).arrays (child_task (source_of old.program.now) old.own.name number) → KeepsOverJoin old new number

-- This pause was answered, and the thread goes on. These effects, which are neither forks nor lines, were added to its
-- account.
pub record Counts (answered : Pending) (effects : Effects) (old new : Strand) : Type 0 where
  pub program : new.program ≡ old.program
  pub name : new.own.name ≡ old.own.name
  pub label : new.own.label ≡ old.own.label
  pub below : new.below ≡ old.below
  pub forks : new.forks ≡ old.forks
  pub unjoined : unjoined_of new ≡ unjoined_of old
  pub here : here_of new ≡ here_of old
  pub locks : locks_of new ≡ locks_of old
  pub pending : pending_of new.control ≡ None
  pub holds : (n : ℕ) (own : ℕ → ℕ) → old.own.holds ≡ tabulated n own → new.own.holds ≡ tabulated n (λ lock. own lock + effects.holds lock)
  pub ending : ending new ≡ ending old
  pub account : (account : Account) → account_at_end new (after old.own.name effects account) ≡ account_at_end old account
  pub work : work_left new ≡ work_left old
  pub trace : At answered ∷ trace_left new ≡ trace_left old
  pub faultless : IsWithoutFault old → IsWithoutFault new
  pub keeps : KeepsForks old → KeepsForks new

-- a frame at which a fold or a sweep begins
abbrev pub IsOfRange : Frame → Type 0
IsOfRange (FoldTo to first body) = Unit {0}
IsOfRange (FoldFirst from first body) = Unit {0}
IsOfRange (FoldStart from to body) = Unit {0}
IsOfRange (SweepTo reduction grain to body) = Unit {0}
IsOfRange (SweepStart reduction grain from body) = Unit {0}
IsOfRange _ = ⊥

-- a frame at which a fold or a sweep begins, or at which the thread pauses
abbrev pub IsPauseOrRange : Frame → Type 0
IsPauseOrRange (Amount ledger body) = Unit {0}
IsPauseOrRange (Release lock) = Unit {0}
IsPauseOrRange (Join number after) = Unit {0}
IsPauseOrRange (Merge number reduction) = Unit {0}
IsPauseOrRange frame = IsOfRange frame

-- a frame that begins no child
abbrev pub IsWithin : Frame → Type 0
IsWithin (JoinHere number child after) = ⊥
IsWithin (MergeHere number left) = ⊥
IsWithin _ = Unit {0}
