-- The result that a suspended thread will have.
use Rattle.std.specs.Prelude.{◌≡◌, ℕ, ◌+◌, ◌-◌, ◌==◌, if◌then◌else◌, List, [], ◌∷◌, ◌++◌, Some, unwrap_or, take, length, slice_index}
use Rattle.arachne_program.specs.Effects.{Task, Evaluate, Reduce, task_value, task_effects, effects_of, tallied, held}
use Rattle.arachne_program.specs.{Meaning.task_of, Program.{source_of, tree_of}, Tree.{Tree, Source, Number}}
use Rattle.arachne_program.specs.Value.{Environment, with_newest, value_of, array_at, apply, operation_of}
use Rattle.arachne_program.specs.declared.program.Operation.{Operation}
use Rattle.arachne_machine.specs.{declared.frame.{Stretch.Stretch, Frame.Frame, Control.Control}, Strands.Strand}
use Rattle.arachne_machine.specs.declared.frame.Frame.TheVariants.{Index, Right, Apply, Branch, Extend, Amount, Release, Join, Merge, JoinHere, MergeHere, FoldTo, FoldFirst, FoldStart, FoldTurn, SweepTo, SweepStart, SweepTurn, Restore}
use Rattle.arachne_machine.specs.declared.frame.Control.TheVariants.{Begin, Give, Cover, Forked, Halved, Awaits, AwaitsHalf, Asks, Frees, Tallies, Ended}
use Rattle.arachne_machine.specs.{Work.{work_of, task_work}, Trace.{Event, Step, At, trace_of, task_trace}}
use Rattle.arachne_machine.specs.Turns.{folded, folded_effects, folded_work, folded_trace, swept, swept_effects, swept_work, swept_trace}
use Rattle.arachne_machine.specs.Account.{Account, after, with_join}
use Rattle.arachne_machine.specs.declared.pause.Pending.TheVariants as pause

-- the environment and the value that a part of the evaluation leaves
pub record Status : Type 0 where
  pub env : Environment
  pub value : ℕ

-- the task of the child of this number; if there is no such child, a task that does nothing
unfoldable pub child_task : Source → List ℕ → ℕ → Task
child_task source name number = unwrap_or (task_of source (name ++ number ∷ [])) (Evaluate (Number 0) [])

-- the environment after the child of this number was joined
abbrev pub joined_env : Source → List ℕ → ℕ → Status → Environment
joined_env source name number s =
    with_newest (with_newest s.env (task_value source.arrays (child_task source name number))) s.value

-- the result of an expression that is begun after that join
abbrev pub status_after_join : Source → List ℕ → ℕ → Tree → Status → Status
status_after_join source name number next s =
    record { env = s.env; value = value_of source.arrays next (joined_env source name number s) }

-- the account after that join
abbrev pub account_joined : Source → List ℕ → ℕ → Account → Account
account_joined source name number account =
    with_join source.locks name number (task_effects source.arrays source.locks (child_task source name number)) account

-- the account after that join and that expression
abbrev pub account_after_join : Source → List ℕ → ℕ → Tree → Status → Account → Account
account_after_join source name number next s account =
    after name (effects_of source.arrays source.locks next (joined_env source name number s)) (account_joined source name number account)

-- the result of the two halves of a sweep, after the left one was joined
abbrev pub status_merged : Source → List ℕ → ℕ → Operation → Status → Status
status_merged source name number operation s =
    record { env = s.env; value = apply operation (task_value source.arrays (child_task source name number)) s.value }

-- the task of a part of a sweep
abbrev pub stretch_task : Stretch → Environment → Task
stretch_task stretch env = Reduce stretch.reduction stretch.grain (tree_of stretch.body.now) env stretch.first (stretch.end - stretch.first)

-- the environment without its n newest variables
abbrev pub without_newest : ℕ → Environment → Environment
without_newest n env = take (length env - n) env

-- the result of a frame, given the result of what came before it
abbrev pub unwind : Source → List ℕ → Frame → Status → Status
unwind source name (Index a) s = record { env = s.env; value = slice_index (array_at source.arrays a) s.value }
unwind source name (Right operation right) s =
    record { env = s.env; value = apply operation s.value (value_of source.arrays (tree_of right.now) s.env) }
unwind source name (Apply operation left) s = record { env = s.env; value = apply operation left s.value }
unwind source name (Branch first second) s = record {
  env = s.env;
  value = if s.value == 0 then value_of source.arrays (tree_of second.now) s.env else value_of source.arrays (tree_of first.now) s.env;
}
unwind source name (Extend body) s =
    record { env = s.env; value = value_of source.arrays (tree_of body.now) (with_newest s.env s.value) }
unwind source name (Amount ledger body) s = record { env = s.env; value = value_of source.arrays (tree_of body.now) s.env }
unwind source name (Release lock) s = s
unwind source name (Join number next) s = status_after_join source name number (tree_of next.now) s
unwind source name (Merge number reduction) s = status_merged source name number (operation_of reduction) s
unwind source name (JoinHere number child next) s = status_after_join source name number (tree_of next.now) s
unwind source name (MergeHere number left) s = status_merged source name number (operation_of left.reduction) s
unwind source name (FoldTo to first body) s = record {
  env = s.env;
  value = folded source.arrays (tree_of body.now) s.env s.value (value_of source.arrays (tree_of to.now) s.env - s.value)
      (value_of source.arrays (tree_of first.now) s.env);
}
unwind source name (FoldFirst from first body) s = record {
  env = s.env;
  value = folded source.arrays (tree_of body.now) s.env from (s.value - from) (value_of source.arrays (tree_of first.now) s.env);
}
unwind source name (FoldStart from to body) s =
    record { env = s.env; value = folded source.arrays (tree_of body.now) s.env from (to - from) s.value }
unwind source name (FoldTurn next end body) s = record {
  env = without_newest 2 s.env;
  value = folded source.arrays (tree_of body.now) (without_newest 2 s.env) next (end - next) s.value;
}
unwind source name (SweepTo reduction grain to body) s = record {
  env = s.env;
  value = task_value source.arrays
      (Reduce reduction grain (tree_of body.now) s.env s.value (value_of source.arrays (tree_of to.now) s.env - s.value));
}
unwind source name (SweepStart reduction grain from body) s =
    record { env = s.env; value = task_value source.arrays (Reduce reduction grain (tree_of body.now) s.env from (s.value - from)) }
unwind source name (SweepTurn reduction next end so_far body) s = record {
  env = without_newest 1 s.env;
  value = swept source.arrays reduction (tree_of body.now) (without_newest 1 s.env) next (end - next)
      (apply (operation_of reduction) so_far s.value);
}
unwind source name (Restore n) s = record { env = take n s.env; value = s.value }

-- the account after a frame, given the account before it
abbrev pub accounted : Source → List ℕ → Frame → Status → Account → Account
accounted source name (Right operation right) s account =
    after name (effects_of source.arrays source.locks (tree_of right.now) s.env) account
accounted source name (Branch first second) s account =
    after name (if s.value == 0 then effects_of source.arrays source.locks (tree_of second.now) s.env
    else effects_of source.arrays source.locks (tree_of first.now) s.env) account
accounted source name (Extend body) s account =
    after name (effects_of source.arrays source.locks (tree_of body.now) (with_newest s.env s.value)) account
accounted source name (Amount ledger body) s account =
    after name (effects_of source.arrays source.locks (tree_of body.now) s.env) (after name (tallied ledger s.value) account)
accounted source name (Join number next) s account = account_after_join source name number (tree_of next.now) s account
accounted source name (Merge number reduction) s account = account_joined source name number account
accounted source name (JoinHere number child next) s account = account_after_join source name number (tree_of next.now) s account
accounted source name (MergeHere number left) s account = account_joined source name number account
accounted source name (FoldTo to first body) s account =
    after name (folded_effects source.arrays source.locks (tree_of body.now) s.env s.value
    (value_of source.arrays (tree_of to.now) s.env - s.value) (value_of source.arrays (tree_of first.now) s.env))
    (after name (effects_of source.arrays source.locks (tree_of first.now) s.env)
    (after name (effects_of source.arrays source.locks (tree_of to.now) s.env) account))
accounted source name (FoldFirst from first body) s account =
    after name (folded_effects source.arrays source.locks (tree_of body.now) s.env from (s.value - from)
    (value_of source.arrays (tree_of first.now) s.env))
    (after name (effects_of source.arrays source.locks (tree_of first.now) s.env) account)
accounted source name (FoldStart from to body) s account =
    after name (folded_effects source.arrays source.locks (tree_of body.now) s.env from (to - from) s.value) account
accounted source name (FoldTurn next end body) s account =
    after name (folded_effects source.arrays source.locks (tree_of body.now) (without_newest 2 s.env) next (end - next) s.value) account
accounted source name (SweepTo reduction grain to body) s account =
    after name (task_effects source.arrays source.locks
    (Reduce reduction grain (tree_of body.now) s.env s.value (value_of source.arrays (tree_of to.now) s.env - s.value)))
    (after name (effects_of source.arrays source.locks (tree_of to.now) s.env) account)
accounted source name (SweepStart reduction grain from body) s account =
    after name (task_effects source.arrays source.locks (Reduce reduction grain (tree_of body.now) s.env from (s.value - from))) account
accounted source name (SweepTurn reduction next end so_far body) s account =
    after name (swept_effects source.arrays source.locks (tree_of body.now) (without_newest 1 s.env) next (end - next)) account
accounted source name (Index a) s account = account
accounted source name (Apply operation left) s account = account
accounted source name (Release lock) s account = account
accounted source name (Restore n) s account = account

-- the steps that a frame takes after the one in which a value is handed to it
abbrev pub frame_work : Source → List ℕ → Frame → Status → ℕ
frame_work source name (Index a) s = 0
frame_work source name (Right operation right) s = work_of source.arrays (tree_of right.now) s.env
frame_work source name (Apply operation left) s = 0
frame_work source name (Branch first second) s =
    if s.value == 0 then work_of source.arrays (tree_of second.now) s.env else work_of source.arrays (tree_of first.now) s.env
frame_work source name (Extend body) s = work_of source.arrays (tree_of body.now) (with_newest s.env s.value)
frame_work source name (Amount ledger body) s = work_of source.arrays (tree_of body.now) s.env
frame_work source name (Release lock) s = 1
frame_work source name (Join number next) s = work_of source.arrays (tree_of next.now) (joined_env source name number s)
frame_work source name (Merge number reduction) s = 1
frame_work source name (JoinHere number child next) s =
    work_of source.arrays (tree_of child.now) s.env + work_of source.arrays (tree_of next.now) (joined_env source name number s)
frame_work source name (MergeHere number left) s = task_work source.arrays (stretch_task left s.env) + 1
frame_work source name (FoldTo to first body) s =
    work_of source.arrays (tree_of to.now) s.env + work_of source.arrays (tree_of first.now) s.env
    + folded_work source.arrays (tree_of body.now) s.env s.value (value_of source.arrays (tree_of to.now) s.env - s.value)
    (value_of source.arrays (tree_of first.now) s.env) + 1
frame_work source name (FoldFirst from first body) s =
    work_of source.arrays (tree_of first.now) s.env
    + folded_work source.arrays (tree_of body.now) s.env from (s.value - from) (value_of source.arrays (tree_of first.now) s.env) + 1
frame_work source name (FoldStart from to body) s = folded_work source.arrays (tree_of body.now) s.env from (to - from) s.value + 1
frame_work source name (FoldTurn next end body) s =
    folded_work source.arrays (tree_of body.now) (without_newest 2 s.env) next (end - next) s.value + 1
frame_work source name (SweepTo reduction grain to body) s =
    work_of source.arrays (tree_of to.now) s.env
    + task_work source.arrays (Reduce reduction grain (tree_of body.now) s.env s.value (value_of source.arrays (tree_of to.now) s.env - s.value))
frame_work source name (SweepStart reduction grain from body) s =
    task_work source.arrays (Reduce reduction grain (tree_of body.now) s.env from (s.value - from))
frame_work source name (SweepTurn reduction next end so_far body) s =
    swept_work source.arrays (tree_of body.now) (without_newest 1 s.env) next (end - next) + 1
frame_work source name (Restore n) s = 0

-- the trace of a frame after the step in which a value is handed to it
abbrev pub frame_trace : Source → List ℕ → Frame → Status → List Event
frame_trace source name (Index a) s = []
frame_trace source name (Right operation right) s = trace_of source.arrays (tree_of right.now) s.env
frame_trace source name (Apply operation left) s = []
frame_trace source name (Branch first second) s =
    if s.value == 0 then trace_of source.arrays (tree_of second.now) s.env else trace_of source.arrays (tree_of first.now) s.env
frame_trace source name (Extend body) s = trace_of source.arrays (tree_of body.now) (with_newest s.env s.value)
frame_trace source name (Amount ledger body) s = At (pause.Tallies ledger s.value) ∷ trace_of source.arrays (tree_of body.now) s.env
frame_trace source name (Release lock) s = At (pause.Frees lock) ∷ Step ∷ []
frame_trace source name (Join number next) s = At pause.Joins ∷ trace_of source.arrays (tree_of next.now) (joined_env source name number s)
frame_trace source name (Merge number reduction) s = At pause.Joins ∷ Step ∷ []
frame_trace source name (JoinHere number child next) s = At pause.Joins ∷ trace_of source.arrays (tree_of next.now) (joined_env source name number s)
frame_trace source name (MergeHere number left) s = At pause.Joins ∷ Step ∷ []
frame_trace source name (FoldTo to first body) s =
    trace_of source.arrays (tree_of to.now) s.env ++ (trace_of source.arrays (tree_of first.now) s.env
    ++ (folded_trace source.arrays (tree_of body.now) s.env s.value (value_of source.arrays (tree_of to.now) s.env - s.value)
    (value_of source.arrays (tree_of first.now) s.env) ++ Step ∷ []))
frame_trace source name (FoldFirst from first body) s =
    trace_of source.arrays (tree_of first.now) s.env
    ++ (folded_trace source.arrays (tree_of body.now) s.env from (s.value - from) (value_of source.arrays (tree_of first.now) s.env) ++ Step ∷ [])
frame_trace source name (FoldStart from to body) s = folded_trace source.arrays (tree_of body.now) s.env from (to - from) s.value ++ Step ∷ []
frame_trace source name (FoldTurn next end body) s =
    folded_trace source.arrays (tree_of body.now) (without_newest 2 s.env) next (end - next) s.value ++ Step ∷ []
frame_trace source name (SweepTo reduction grain to body) s =
    trace_of source.arrays (tree_of to.now) s.env
    ++ task_trace source.arrays (Reduce reduction grain (tree_of body.now) s.env s.value (value_of source.arrays (tree_of to.now) s.env - s.value))
frame_trace source name (SweepStart reduction grain from body) s =
    task_trace source.arrays (Reduce reduction grain (tree_of body.now) s.env from (s.value - from))
frame_trace source name (SweepTurn reduction next end so_far body) s =
    swept_trace source.arrays (tree_of body.now) (without_newest 1 s.env) next (end - next) ++ Step ∷ []
frame_trace source name (Restore n) s = []

-- the result of all these frames, the newest of which is the last; their account, steps and trace follow
abbrev pub resume : Source → List ℕ → List Frame → Status → Status
resume source name [] s = s
resume source name (frame ∷ frames) s = unwind source name frame (resume source name frames s)

abbrev pub resume_account : Source → List ℕ → List Frame → Status → Account → Account
resume_account source name [] s account = account
resume_account source name (frame ∷ frames) s account =
    accounted source name frame (resume source name frames s) (resume_account source name frames s account)

abbrev pub resume_work : Source → List ℕ → List Frame → Status → ℕ
resume_work source name [] s = 0
resume_work source name (frame ∷ frames) s = frame_work source name frame (resume source name frames s) + resume_work source name frames s

abbrev pub resume_trace : Source → List ℕ → List Frame → Status → List Event
resume_trace source name [] s = []
resume_trace source name (frame ∷ frames) s = resume_trace source name frames s ++ frame_trace source name frame (resume source name frames s)

-- the forks whose children these frames join, the newest first
abbrev pub fork_of : Frame → List ℕ
fork_of (Join number next) = number ∷ []
fork_of (Merge number reduction) = number ∷ []
fork_of (JoinHere number child next) = number ∷ []
fork_of (MergeHere number left) = number ∷ []
fork_of _ = []

abbrev pub forks_of : List Frame → List ℕ
forks_of [] = []
forks_of (frame ∷ frames) = forks_of frames ++ fork_of frame

-- those of them whose children will run here
abbrev pub fork_here : Frame → List ℕ
fork_here (JoinHere number child next) = number ∷ []
fork_here (MergeHere number left) = number ∷ []
fork_here _ = []

abbrev pub forks_here : List Frame → List ℕ
forks_here [] = []
forks_here (frame ∷ frames) = forks_here frames ++ fork_here frame

-- the environment in which a task is done
abbrev pub environment_of : Task → Environment
environment_of (Evaluate tree env) = env
environment_of (Reduce reduction grain body env first n) = env

-- The program has a child of this number, which is forked in this environment.
pub record IsForkedIn (source : Source) (name : List ℕ) (number : ℕ) (env : Environment) : Type 0 where
  pub task : Task
  pub has_task : task_of source (name ++ number ∷ []) ≡ Some task
  pub environment : environment_of task ≡ env

-- The child that a frame joins was forked in the environment that the frame is left with. A child that will run here
-- has its task.
abbrev pub KeepsFork : Source → List ℕ → Frame → Status → Type 0
KeepsFork source name (Join number next) s = IsForkedIn source name number s.env
KeepsFork source name (Merge number reduction) s = IsForkedIn source name number s.env
KeepsFork source name (JoinHere number child next) s = task_of source (name ++ number ∷ []) ≡ Some (Evaluate (tree_of child.now) s.env)
KeepsFork source name (MergeHere number left) s = task_of source (name ++ number ∷ []) ≡ Some (stretch_task left s.env)
KeepsFork source name _ s = Unit {0}

abbrev pub KeepForks : Source → List ℕ → List Frame → Status → Type 0
KeepForks source name [] s = Unit {0}
KeepForks source name (frame ∷ frames) s = KeepsFork source name frame (resume source name frames s) × KeepForks source name frames s

-- The awaited child was forked in this environment.
abbrev pub AwaitsFork : Source → List ℕ → Control → Environment → Type 0
AwaitsFork source name (Awaits number during next) env = IsForkedIn source name number env
AwaitsFork source name (AwaitsHalf number right reduction) env = IsForkedIn source name number env
AwaitsFork source name _ env = Unit {0}

-- the locks that these frames release, the newest first
abbrev pub lock_of : Frame → List ℕ
lock_of (Release lock) = lock ∷ []
lock_of _ = []

abbrev pub releases : List Frame → List ℕ
releases [] = []
releases (frame ∷ frames) = releases frames ++ lock_of frame

-- the result of a thread's next action, up to the newest frame; its account follows
abbrev pub begun : Source → List ℕ → Control → Environment → Status
begun source name (Begin expr) env = record { env = env; value = value_of source.arrays (tree_of expr.now) env }
begun source name (Give value) env = record { env = env; value = value }
begun source name (Cover stretch) env = record { env = env; value = task_value source.arrays (stretch_task stretch env) }
begun source name (Forked expr) env = record { env = env; value = value_of source.arrays (tree_of expr.now) env }
begun source name (Halved stretch) env = record { env = env; value = task_value source.arrays (stretch_task stretch env) }
begun source name (Awaits number during next) env =
    status_after_join source name number (tree_of next.now) (record { env = env; value = during })
begun source name (AwaitsHalf number right reduction) env =
    status_merged source name number (operation_of reduction) (record { env = env; value = right })
begun source name (Asks lock body) env = record { env = env; value = value_of source.arrays (tree_of body.now) env }
begun source name (Frees lock value) env = record { env = env; value = value }
begun source name (Tallies ledger amount body) env = record { env = env; value = value_of source.arrays (tree_of body.now) env }
begun source name (Ended value) env = record { env = env; value = value }

abbrev pub begun_account : Source → List ℕ → Control → Environment → Account → Account
begun_account source name (Begin expr) env account =
    after name (effects_of source.arrays source.locks (tree_of expr.now) env) account
begun_account source name (Give value) env account = account
begun_account source name (Cover stretch) env account =
    after name (task_effects source.arrays source.locks (stretch_task stretch env)) account
begun_account source name (Forked expr) env account =
    after name (effects_of source.arrays source.locks (tree_of expr.now) env) account
begun_account source name (Halved stretch) env account =
    after name (task_effects source.arrays source.locks (stretch_task stretch env)) account
begun_account source name (Awaits number during next) env account =
    account_after_join source name number (tree_of next.now) (record { env = env; value = during }) account
begun_account source name (AwaitsHalf number right reduction) env account = account_joined source name number account
begun_account source name (Asks lock body) env account =
    after name (effects_of source.arrays source.locks (tree_of body.now) env) (after name (held lock) account)
begun_account source name (Frees lock value) env account = account
begun_account source name (Tallies ledger amount body) env account =
    after name (effects_of source.arrays source.locks (tree_of body.now) env) (after name (tallied ledger amount) account)
begun_account source name (Ended value) env account = account

-- the steps of a thread's next action; a value that only has to be handed on takes one
abbrev pub begun_work : Source → List ℕ → Control → Environment → ℕ
begun_work source name (Begin expr) env = work_of source.arrays (tree_of expr.now) env
begun_work source name (Give value) env = 1
begun_work source name (Cover stretch) env = task_work source.arrays (stretch_task stretch env)
begun_work source name (Forked expr) env = work_of source.arrays (tree_of expr.now) env
begun_work source name (Halved stretch) env = task_work source.arrays (stretch_task stretch env)
begun_work source name (Awaits number during next) env =
    work_of source.arrays (tree_of next.now) (joined_env source name number (record { env = env; value = during }))
begun_work source name (AwaitsHalf number right reduction) env = 1
begun_work source name (Asks lock body) env = work_of source.arrays (tree_of body.now) env
begun_work source name (Frees lock value) env = 1
begun_work source name (Tallies ledger amount body) env = work_of source.arrays (tree_of body.now) env
begun_work source name (Ended value) env = 0

-- the trace of a thread's next action, from the pending pause on
abbrev pub begun_trace : Source → List ℕ → Control → Environment → List Event
begun_trace source name (Begin expr) env = trace_of source.arrays (tree_of expr.now) env
begun_trace source name (Give value) env = Step ∷ []
begun_trace source name (Cover stretch) env = task_trace source.arrays (stretch_task stretch env)
begun_trace source name (Forked expr) env = At pause.Forks ∷ trace_of source.arrays (tree_of expr.now) env
begun_trace source name (Halved stretch) env = At pause.Forks ∷ task_trace source.arrays (stretch_task stretch env)
begun_trace source name (Awaits number during next) env =
    At pause.Joins ∷ trace_of source.arrays (tree_of next.now) (joined_env source name number (record { env = env; value = during }))
begun_trace source name (AwaitsHalf number right reduction) env = At pause.Joins ∷ Step ∷ []
begun_trace source name (Asks lock body) env = At (pause.Asks lock) ∷ trace_of source.arrays (tree_of body.now) env
begun_trace source name (Frees lock value) env = At (pause.Frees lock) ∷ Step ∷ []
begun_trace source name (Tallies ledger amount body) env = At (pause.Tallies ledger amount) ∷ trace_of source.arrays (tree_of body.now) env
begun_trace source name (Ended value) env = []

-- the fork whose child is awaited
abbrev pub fork_awaited : Control → List ℕ
fork_awaited (Awaits number during next) = number ∷ []
fork_awaited (AwaitsHalf number right reduction) = number ∷ []
fork_awaited _ = []

-- the lock that is released now
abbrev pub lock_freed : Control → List ℕ
lock_freed (Frees lock value) = lock ∷ []
lock_freed _ = []

-- the frames that are left: none once the thread has ended
abbrev pub frames_left : Control → List Frame → List Frame
frames_left (Ended value) frames = []
frames_left _ frames = frames

-- the environment and the value with which the thread ends
abbrev pub ending : Strand → Status
ending t =
    let source = source_of t.program.now in
    resume source t.own.name (frames_left t.control t.frames) (begun source t.own.name t.control t.environment)

-- its account in the end, from its account so far
abbrev pub account_at_end : Strand → Account → Account
account_at_end t account =
    let source = source_of t.program.now in
    resume_account source t.own.name (frames_left t.control t.frames) (begun source t.own.name t.control t.environment)
    (begun_account source t.own.name t.control t.environment account)

-- the steps that are left
abbrev pub work_left : Strand → ℕ
work_left t =
    let source = source_of t.program.now in
    begun_work source t.own.name t.control t.environment
    + resume_work source t.own.name (frames_left t.control t.frames) (begun source t.own.name t.control t.environment)

-- the rest of its trace, whose last event is its end
abbrev pub trace_left : Strand → List Event
trace_left t =
    let source = source_of t.program.now in
    begun_trace source t.own.name t.control t.environment
    ++ resume_trace source t.own.name (frames_left t.control t.frames) (begun source t.own.name t.control t.environment)
    ++ At pause.Ended ∷ []

-- its forks that are not joined, the newest first
abbrev pub unjoined_of : Strand → List ℕ
unjoined_of t = fork_awaited t.control ++ forks_of t.frames

-- the locks that it has requested and not released, the newest first
abbrev pub locks_of : Strand → List ℕ
locks_of t = lock_freed t.control ++ releases t.frames

-- its forks whose children will run here, the newest first
abbrev pub here_of : Strand → List ℕ
here_of t = forks_here t.frames

-- Its forks that are not joined are those of the program.
abbrev pub KeepsForks : Strand → Type 0
KeepsForks t =
    let source = source_of t.program.now in
    AwaitsFork source t.own.name t.control t.environment
    × KeepForks source t.own.name (frames_left t.control t.frames) (begun source t.own.name t.control t.environment)
