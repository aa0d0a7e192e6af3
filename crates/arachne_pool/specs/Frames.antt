-- The jobs that run inside one slot, as a stack.
use Rattle.std.specs.Prelude.{◌≡◌, ℕ, ◌+◌, ◌-◌, ◌^◌, ◌<◌, ◌≤◌, Bool, false, List, [], ◌∷◌, Option, None, Some, IfSome, drop, take}
use Rattle.arachne_pool.specs.Jobs.{KeepsResults, children_of}
use Rattle.arachne_pool.specs.declared.stack.JobStop.{JobStop}
use Rattle.arachne_pool.specs.declared.stack.JobStop.TheVariants.{Goes}
use Rattle.arachne_pool.specs.declared.tally.Tally.{Tally}

-- a job of the stack: as it was forked, as it is now, and the number of its unjoined children, not counting the child
-- above it in the stack
pub record Framed (Job : Type 0) : Type 0 where
  pub as_spawned : Job
  pub job : Job
  pub awaited : ℕ

-- the whole stack: `as_spawned` is the first job as it was spawned; `many` is the number of unfinished jobs, with the
-- children that wait in the slot to begin, and `jobs` are these jobs as they are now; `child` was just forked by the
-- topmost job; `ended` is the topmost job's result, if it has ended; `waits` is true if it waits for its newest child's
-- result
pub record Stacked (Job Output : Type 0) : Type 0 where
  pub as_spawned : Job
  pub many : ℕ
  pub jobs : List Job
  pub child : Option Job
  pub ended : Option Output
  pub waits : Bool

-- true if the first job and the number of unfinished jobs are the same
abbrev pub KeepsMany : {Job Output : Type 0} → Stacked Job Output → Stacked Job Output → Type 0
KeepsMany old new = (new.as_spawned ≡ old.as_spawned) × (new.many ≡ old.many)

-- true unless the topmost job goes on while it still waits for a result
abbrev pub IsServed : {Job Output : Type 0} → JobStop → Stacked Job Output → Type 0
IsServed stop new = stop ≡ Goes → new.waits ≡ false

-- the job, or `None` if it has ended
abbrev pub unless_ended : {Job Output : Type 0} → Option Output → Job → Option Job
unless_ended None job = Some job
unless_ended (Some output) job = None

-- 1 if there is a value, otherwise 0
abbrev pub count_one : {A : Type 0} → Option A → ℕ
count_one None = 0
count_one (Some value) = 1

-- 1 if there is no value, otherwise 0
abbrev pub count_none : {A : Type 0} → Option A → ℕ
count_none None = 1
count_none (Some value) = 0

module _ {Job Output : Type 0} (is_result : Job → Output → Type 0) (awaits : Job → List Job → Type 0) where
  -- true if each job of the stack, the topmost first, awaits the job above it as its newest child, and behind that its
  -- own of `children`, and the lowest job was spawned as `first`
  abbrev pub Hangs : Job → List (Framed Job) → List Job → Job → Type 0
  Hangs above [] children first = above ≡ first
  Hangs above (frame ∷ rest) children first =
      awaits frame.job (above ∷ take frame.awaited children) × KeepsResults is_result frame.as_spawned frame.job
      × Hangs frame.as_spawned rest (drop frame.awaited children) first

  -- the invariant of a stack: a result of the topmost job, as it is now, is one of it as it was forked; the other jobs
  -- wait below it (`Hangs`); unless it has ended, it awaits its own children; if it has ended, `ended` is a result of
  -- it; a child that was just forked awaits no child
  pub record RunTogether (top : Framed Job) (below : List (Framed Job)) (children : List Job) (child : Option Job) (ended : Option Output) (first : Job) : Type 0 where
    pub keeps : KeepsResults is_result top.as_spawned top.job
    pub hangs : Hangs top.as_spawned below (drop top.awaited children) first
    pub awaited : ended ≡ None → awaits top.job (children_of child (take top.awaited children))
    pub fresh : IfSome child (λ c. awaits c [])
    pub result : IfSome ended (λ output. is_result top.as_spawned output × (child ≡ None))

-- true if the counts of spawned and ended jobs have changed as the number of unfinished jobs has, from `before` to
-- `after`, unless a count has saturated at 2^64 - 1
pub record CountsEach (old new : Tally) (before after : ℕ) : Type 0 where
  pub spawned : old.spawned ≤ new.spawned
  pub ended : old.ended ≤ new.ended
  pub each : new.spawned < 2 ^ 64 - 1 → new.ended < 2 ^ 64 - 1 → new.spawned + before + old.ended ≡ old.spawned + after + new.ended
