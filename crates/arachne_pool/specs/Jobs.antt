-- What the steps of a job preserve: its possible results, and the children that it awaits.
use Rattle.std.specs.Prelude.{◌≡◌, ℕ, ◌+◌, List, [], ◌∷◌, Option, None, Some}
use Rattle.std.specs.List.{sum_by}
use Rattle.arachne_core.specs.declared.thread_id.ThreadId.{ThreadId}
use Rattle.arachne_pool.specs.declared.job.Step.{Step}
use Rattle.arachne_pool.specs.declared.job.Step.TheVariants.{Again, Waits, Sleeps, Forks, Done}

-- a job in a pool: its tag; the job as it was spawned; the id of its parent, if the job's end must wake it; the number
-- of unfinished jobs in its slot; and these jobs as they are now, first those that have not begun, and in both groups
-- the newest first
pub record Being (Job : Type 0) : Type 0 where
  pub tag : ℕ
  pub asked : Job
  pub parent : Option ThreadId
  pub many : ℕ
  pub jobs : List Job

-- a job that has made no step, with no other job in its slot
abbrev pub one : {Job : Type 0} → ℕ → Job → Option ThreadId → Being Job
one tag job parent = record { tag = tag; asked = job; parent = parent; many = 1; jobs = job ∷ [] }

-- true if one job of a slot was moved out, as a job of its own that has made no step, and whose parent has the id `me`
abbrev pub PartsOne : {Job : Type 0} → ThreadId → Being Job → Being Job → Being Job → Type 0
PartsOne me old new child =
    (new ≡ record old { many = new.many; jobs = new.jobs }) × (new.many + 1 ≡ old.many) × (child ≡ one child.tag child.asked (Some me))

-- the number of unfinished jobs in all these slots
abbrev pub count_near : {Job : Type 0} → List (Being Job) → ℕ
count_near near = sum_by (λ s. s.many) near

module _ {Job : Type 0} where
  -- the children that are awaited: `child`, if there is one, before the others
  abbrev pub children_of : Option Job → List Job → List Job
  children_of None linked = linked
  children_of (Some child) linked = child ∷ linked

  module _ (awaits : Job → List Job → Type 0) where
    -- true if some list is that of the children that the job awaits, as long as the job has not ended
    abbrev pub KnowsChildren : Job → Type 0
    KnowsChildren job = (children : List Job) × awaits job children

    -- true if the job awaits the same children as before
    abbrev pub KeepsAwaited : Job → Job → Type 0
    KeepsAwaited old new = (children : List Job) → awaits old children → awaits new children

    -- true if the job awaits after a step the same children as before, and also the child that the step forked, if any;
    -- a job that has ended awaits none
    abbrev pub KeepsChildren : {Output : Type 0} → Step Job Output → Job → Job → Type 0
    KeepsChildren Again old new = KeepsAwaited old new
    KeepsChildren Waits old new = KeepsAwaited old new
    KeepsChildren Sleeps old new = KeepsAwaited old new
    KeepsChildren (Forks child) old new = (children : List Job) → awaits old children → awaits new (child ∷ children)
    KeepsChildren (Done output) old new = Unit {0}

    -- true if the child that the step forked, if any, awaits no child yet
    abbrev pub ForksFresh : {Output : Type 0} → Step Job Output → Type 0
    ForksFresh Again = Unit {0}
    ForksFresh Waits = Unit {0}
    ForksFresh Sleeps = Unit {0}
    ForksFresh (Forks child) = awaits child []
    ForksFresh (Done output) = Unit {0}

  module _ {Output : Type 0} (is_result : Job → Output → Type 0) where
    -- true if each possible result of the job as it is now was one before
    abbrev pub KeepsResults : Job → Job → Type 0
    KeepsResults old new = (output : Output) → is_result new output → is_result old output

    -- true if `output` is a result of the newest child that the job awaits
    abbrev pub IsAwaited : (Job → List Job → Type 0) → Job → Output → Type 0
    IsAwaited awaits job output = (child : Job) × (rest : List Job) × awaits job (child ∷ rest) × is_result child output

    -- true if the job no longer awaits its newest child, whose result is `output`
    abbrev pub HasJoined : (Job → List Job → Type 0) → Output → Job → Job → Type 0
    HasJoined awaits output old new =
        (child : Job) (rest : List Job) → awaits old (child ∷ rest) → is_result child output → awaits new rest

-- true if the step's result, if the job has ended, is one of the job's possible results
abbrev pub EndsWith : {Job Output : Type 0} → (Output → Type 0) → Step Job Output → Type 0
EndsWith is_result Again = Unit {0}
EndsWith is_result Waits = Unit {0}
EndsWith is_result Sleeps = Unit {0}
EndsWith is_result (Forks child) = Unit {0}
EndsWith is_result (Done output) = is_result output
