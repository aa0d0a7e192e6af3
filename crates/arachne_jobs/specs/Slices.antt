-- The state in which a slice leaves a job, and how the job is put back.
use Rattle.std.specs.Prelude.{◌≡◌, ◌<◌, ◌≤◌, ℕ, Option, None, Some}
use Rattle.arachne_core.specs.declared.state.Rest.{Rest}
use Rattle.arachne_core.specs.declared.state.Rest.TheVariants as rest
use Rattle.arachne_machine.specs.declared.pause.Pending.{Pending}
use Rattle.arachne_machine.specs.declared.pause.Pending.TheVariants as pause
use Rattle.arachne_jobs.specs.declared.slice.Slice.{Slice}
use Rattle.arachne_jobs.specs.declared.slice.Slice.TheVariants.{Goes, Forks, Blocks, Asks, Awaits, Frees, Tallies, Ends}

-- true if a job that is paused so waits for the end of a child, or for a lock
abbrev pub IsWait : Option Pending → Type 0
IsWait (Some pause.Joins) = Unit {0}
IsWait (Some (pause.Asks lock)) = Unit {0}
IsWait _ = ⊥

-- true if a job that is paused so has a request: to get a lock, to free one, or to add to a ledger
abbrev pub IsRequest : Option Pending → Type 0
IsRequest (Some (pause.Asks lock)) = Unit {0}
IsRequest (Some (pause.Frees lock)) = Unit {0}
IsRequest (Some (pause.Tallies ledger amount)) = Unit {0}
IsRequest _ = ⊥

-- true if a job that is paused so may be put back in this state: ready if it can go on, blocked if it waits
abbrev pub MayRest : Rest → Option Pending → Type 0
MayRest rest.Ready pending = pending ≡ None
MayRest rest.Blocked pending = IsWait pending

-- true if a job that is paused so can neither go on nor wait: its request must be carried out first, or it has ended
abbrev pub HasNoRest : Option Pending → Type 0
HasNoRest None = ⊥
HasNoRest (Some pause.Joins) = ⊥
HasNoRest (Some (pause.Asks lock)) = ⊥
HasNoRest _ = Unit {0}

-- true if fewer steps are left than the job had, or as many if it awaits a child; a job that still waits for a lock has
-- made none
abbrev pub UsesSteps : {Child : Type 0} → Slice Child → ℕ → ℕ → Type 0
UsesSteps Blocks had left = left ≤ had
UsesSteps (Awaits lock) had left = left ≡ had
UsesSteps _ had left = left < had

module _ {Job Child : Type 0} (forks : Job → Child → Type 0) (pause_of : Job → Option Pending) where
  -- true if the job is paused as the result of its slice says
  abbrev pub IsLeft : Slice Child → Job → Type 0
  IsLeft Goes job = pause_of job ≡ None
  IsLeft (Forks class child) job = forks job child
  IsLeft Blocks job = pause_of job ≡ Some pause.Joins
  IsLeft (Asks lock) job = pause_of job ≡ Some (pause.Asks lock)
  IsLeft (Awaits lock) job = pause_of job ≡ Some (pause.Asks lock)
  IsLeft (Frees lock) job = pause_of job ≡ Some (pause.Frees lock)
  IsLeft (Tallies ledger amount) job = pause_of job ≡ Some (pause.Tallies ledger amount)
  IsLeft Ends job = pause_of job ≡ Some pause.Ended
