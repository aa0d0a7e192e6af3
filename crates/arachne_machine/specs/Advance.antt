-- The results of a thread's calls.
use Rattle.std.specs.Prelude.{◌≡◌, ◌+◌, ◌-◌, ◌<◌, ℕ, List, [], ◌∷◌, Option, None, Some, IsSome, Result, Ok, Err}
use Rattle.std.specs.Global.{Box}
use Rattle.arachne_machine.specs.declared.pause.{Pending.Pending, Pause.Pause, NotJoined.NotJoined, NotPlaced.NotPlaced}
use Rattle.arachne_machine.specs.{declared.state.State.State, Kept.nested, Faultless.PausesWithin}
use Rattle.arachne_machine.specs.Nested.{Nested, AwaitsElsewhere, FallsBy, IsAlone, IsChildOf, IsForked, SameWhole, Stops, pending_in, whole, work_in}
use Rattle.arachne_machine.specs.{Outcome.Finished, Suspended.{Suspended, SameThread, MakesSteps, Forked, awaited}}
use Rattle.arachne_machine.specs.declared.pause.Pending.TheVariants as pause
use Rattle.arachne_machine.specs.declared.pause.Pause.TheVariants as pauses
use Rattle.arachne_machine.specs.declared.pause.NotJoined.TheVariants as refused
use Rattle.arachne_machine.specs.declared.pause.NotPlaced.TheVariants as unplaced
use Rattle.arachne_program.specs.declared.program.Class.{Class}

-- The change that an advance makes to a thread in whose place no other runs, given the pause that it returns.
abbrev pub Advanced : ℕ → Suspended → Pause → Suspended → Type 0
-- the whole budget was used
Advanced budget old pauses.Budget new =
    SameThread old new × (new.locks ≡ old.locks) × (new.pending ≡ None) × MakesSteps budget budget old new
-- a child was forked
Advanced budget old (pauses.Forks class child) new = Forked budget class old new child.running
-- a child is awaited: that of the newest fork that is not joined
Advanced budget old pauses.Joins new =
    SameThread old new × (new.locks ≡ old.locks) × (new.pending ≡ Some pause.Joins) × IsSome (awaited new) × MakesSteps 1 budget old new
-- a lock is asked for
Advanced budget old (pauses.Asks lock) new =
    SameThread old new × (new.locks ≡ lock ∷ old.locks) × (new.pending ≡ Some (pause.Asks lock)) × MakesSteps 1 budget old new
-- the lock is released that was requested last of those that are not released
Advanced budget old (pauses.Frees lock) new =
    SameThread old new × (new.locks ≡ old.locks) × (new.pending ≡ Some (pause.Frees lock))
    × ((others : List ℕ) × (old.locks ≡ lock ∷ others)) × MakesSteps 1 budget old new
-- an amount is added to a ledger
Advanced budget old (pauses.Tallies ledger amount) new =
    SameThread old new × (new.locks ≡ old.locks) × (new.pending ≡ Some (pause.Tallies ledger amount)) × MakesSteps 1 budget old new
-- the thread has ended, and has joined each child and released each lock
Advanced budget old pauses.Ended new =
    SameThread old new × (old.locks ≡ []) × (new.locks ≡ []) × (new.pending ≡ Some pause.Ended) × (new.unjoined ≡ []) × (new.work ≡ 0)
    × MakesSteps 1 budget old new

-- The full result of such an advance: no other thread runs in its place, and its sums and holds are unchanged.
pub record AdvancedAlone (budget : ℕ) (old : Nested) (gives : Pause) (new : Nested) : Type 0 where
  pub does : Advanced budget old.running gives new.running
  pub alone : IsAlone new
  pub sums : new.sums ≡ old.sums
  pub holds : new.running.holds ≡ old.running.holds

-- No child was placed: each fork was a pause.
abbrev pub PlacesNone : Nested → Pause → Nested → Type 0
PlacesNone old (pauses.Forks class child) new = (new.parents ≡ []) × ((whole new).forks ≡ (whole old).forks + 1)
PlacesNone old _ new = (whole new).forks ≡ (whole old).forks

-- An advance of a thread in whose place no other runs was refused memory.
pub record RefusedAlone (budget : ℕ) (old new : Nested) : Type 0 where
  pub same : SameThread old.running new.running
  pub alone : IsAlone new
  pub steps : MakesSteps 0 (budget - 1) old.running new.running
  pub locks : new.running.locks ≡ old.running.locks
  pub sums : new.sums ≡ old.sums
  pub holds : new.running.holds ≡ old.running.holds

-- The change that an advance makes to a thread with others in its place. The budget counts the steps of all of them.
abbrev pub Moves : ℕ → Nested → Pause → Nested → Type 0
Moves budget old pauses.Budget new = SameWhole old new × (pending_in new ≡ None) × (work_in new + budget ≡ work_in old)
Moves budget old (pauses.Forks class child) new =
    SameWhole old new × (pending_in new ≡ Some pause.Forks) × IsForked class new.running child × IsChildOf new child
    × FallsBy 1 budget (work_in old) (work_in new + work_in child)
Moves budget old pauses.Joins new = Stops budget old new pause.Joins
Moves budget old (pauses.Asks lock) new = Stops budget old new (pause.Asks lock)
Moves budget old (pauses.Frees lock) new = Stops budget old new (pause.Frees lock)
Moves budget old (pauses.Tallies ledger amount) new = Stops budget old new (pause.Tallies ledger amount)
-- the outermost thread has ended, and has joined each child and released each lock
Moves budget old pauses.Ended new =
    Stops budget old new pause.Ended × (new.parents ≡ []) × (new.running.locks ≡ []) × (new.running.unjoined ≡ []) × (new.running.work ≡ 0)

-- Callers are asked for outcomes only of children that have a place of their own. A child that was placed here runs as
-- soon as it is awaited.
abbrev pub AwaitsAt : Pause → Nested → Type 0
AwaitsAt pauses.Joins thread = AwaitsElsewhere thread.running thread.placed
AwaitsAt _ thread = Unit {0}

-- the lock or ledger that a pause names exists
abbrev pub PausesAt : Pause → Suspended → Type 0
PausesAt pauses.Budget thread = Unit {0}
PausesAt _ thread = PausesWithin thread

-- the pause that callers see if no child was forked
abbrev pub pause_at : Option Pending → Pause
pause_at None = pauses.Budget
pause_at (Some pause.Forks) = pauses.Budget
pause_at (Some pause.Joins) = pauses.Joins
pause_at (Some (pause.Asks lock)) = pauses.Asks lock
pause_at (Some (pause.Frees lock)) = pauses.Frees lock
pause_at (Some (pause.Tallies ledger amount)) = pauses.Tallies ledger amount
pause_at (Some pause.Ended) = pauses.Ended

-- The steps that are left after an advance: none if the budget is used up, and otherwise fewer than before.
abbrev pub IsSpentAt : Pause → ℕ → ℕ → Type 0
IsSpentAt pauses.Budget had left = left ≡ 0
IsSpentAt _ had left = left < had

-- the steps that leave the thread with a child that is given away
abbrev pub given : Pause → ℕ
given (pauses.Forks class child) = work_in child
given _ = 0

-- Exactly the steps that were made are subtracted from those that were left.
abbrev pub IsCharged : ℕ → ℕ → Nested → Pause → Nested → Type 0
IsCharged had left old pause new = work_in new + given pause + had ≡ work_in old + left

-- the outcome that was refused and is returned
abbrev pub handed_back : NotJoined Finished → Finished
handed_back (refused.Foreign outcome) = outcome
handed_back (refused.Memory outcome) = outcome

-- the outcome was refused as that of another thread
abbrev pub IsForeign : Result (Unit {0}) (NotJoined Finished) → Type 0
IsForeign (Ok done) = ⊥
IsForeign (Err (refused.Foreign outcome)) = Unit {0}
IsForeign (Err (refused.Memory outcome)) = ⊥

-- the child that was refused and is returned
abbrev pub child_back : NotPlaced → Nested
child_back (unplaced.Foreign child) = child
child_back (unplaced.Memory child) = child

-- the child was refused as another thread than the awaited one
abbrev pub IsNotAwaited : Result (Unit {0}) NotPlaced → Type 0
IsNotAwaited (Ok done) = ⊥
IsNotAwaited (Err (unplaced.Foreign child)) = Unit {0}
IsNotAwaited (Err (unplaced.Memory child)) = ⊥

-- the pause that callers see, given the child if one was forked, and the pending pause otherwise
abbrev pub pause_seen : Option (Class × Box State) → Option Pending → Pause
pause_seen (Some forked) pending = pauses.Forks forked.0 (nested forked.1.value [])
pause_seen None pending = pause_at pending
