-- The result of an advance, and of one that goes on over tallies which are made as the thread comes to them.
use Rattle.std.specs.Prelude.{◌≡◌, ℕ, ◌+◌, ◌-◌, ◌==◌, if◌then◌else◌, List, [], ◌∷◌, None, Some}
use Rattle.arachne_program.specs.{Value.wrapped, Program.source_of, Checked.IsChecked}
use Rattle.arachne_machine.specs.declared.pause.Pending.TheVariants as pause
use Rattle.arachne_machine.specs.{declared.pause.Pause.Pause, Suspended.{IsAnswered, SameThread, raised}}
use Rattle.arachne_machine.specs.Nested.{FallsBy, IsAlone, IsRest, Nested, SameWhole, pending_in, whole, work_in}
use Rattle.arachne_machine.specs.Advance.{AdvancedAlone, AwaitsAt, IsCharged, IsSpentAt, Moves, PausesAt, PlacesNone, RefusedAlone}
use Rattle.arachne_machine.specs.declared.pause.Pause.TheVariants as pauses

-- the amount that is due to each ledger
abbrev pub Dues : Type 0
Dues = ℕ → ℕ

-- this amount more is due to this ledger, modulo 2 ^ 64, and all else is unchanged
abbrev pub GainsAt : Dues → ℕ → ℕ → Dues → Type 0
GainsAt old ledger amount new = (other : ℕ) → new other ≡ wrapped (old other + (if other == ledger then amount else 0))

-- a ledger and the amount that is added to it
abbrev pub Tally : Type 0
Tally = ℕ × ℕ

-- the amounts that are due after these tallies, the newest of which is the first
abbrev pub due_after : Dues → List Tally → ℕ → ℕ
due_after due [] ledger = due ledger
due_after due (tally ∷ earlier) ledger = wrapped (due_after due earlier ledger + (if ledger == tally.0 then tally.1 else 0))

-- The result of an advance, given the pause that it returns and the steps that were left before and after.
pub record IsAdvance (had left : ℕ) (old : Nested) (gives : Pause) (new : Nested) : Type 0 where
  pub moves : Moves had old gives new
  pub spent : IsSpentAt gives had left
  pub charged : IsCharged had left old gives new
  pub elsewhere : AwaitsAt gives new
  pub within : IsChecked (source_of (whole old).program) → PausesAt gives new.running
  pub alone : IsAlone old → PlacesNone old gives new → AdvancedAlone had old gives new
  pub rest : IsRest old.placed new.placed
  pub sums : old.placed ≡ [] → new.sums ≡ old.sums

-- An advance was refused memory.
pub record IsRefusedAdvance (had left : ℕ) (old new : Nested) : Type 0 where
  pub same : SameWhole old new
  pub work : FallsBy 0 (had - 1) (work_in old) (work_in new)
  pub charged : work_in new + had ≡ work_in old + left
  pub pending : pending_in new ≡ None
  pub rest : IsRest old.placed new.placed
  pub alone : IsAlone old → (whole new).forks ≡ (whole old).forks → RefusedAlone had old new

-- The thread had paused at this tally. The tally was made once, and the thread goes on.
pub record IsTallied (ledger amount : ℕ) (old new : Nested) : Type 0 where
  pub paused : pending_in old ≡ Some (pause.Tallies ledger amount)
  pub same_whole : SameWhole old new
  pub same : SameThread old.running new.running
  pub sums : new.sums ≡ raised old.sums ledger amount
  pub holds : new.running.holds ≡ old.running.holds
  pub locks : new.running.locks ≡ old.running.locks
  pub others : new ≡ record old { running = new.running; sums = new.sums }
  pub goes_on : pending_in new ≡ None
  pub work : work_in new ≡ work_in old
  pub trace : IsAnswered old.running new.running

-- The thread was advanced to each of these tallies, the newest of which is the first, and each was made.
abbrev pub GoesOver : List Tally → ℕ → ℕ → Nested → Nested → Type 0
GoesOver [] had left old new = (left ≡ had) × (new ≡ old)
GoesOver (tally ∷ earlier) had left old new =
    (before : ℕ) × (mid paused : Nested) × GoesOver earlier had before old mid
    × IsAdvance before left mid (pauses.Tallies tally.0 tally.1) paused × IsTallied tally.0 tally.1 paused new

-- The thread has gone over some tallies, each of which is due now.
pub record HasGone (had left : ℕ) (old new : Nested) (due new_due : Dues) : Type 0 where
  pub tallies : List Tally
  pub goes : GoesOver tallies had left old new
  pub due_now : (ledger : ℕ) → new_due ledger ≡ due_after due tallies ledger

-- The thread has gone over some tallies, each of which is due now, and one more advance has returned this pause.
pub record AdvancesOver (had left : ℕ) (old : Nested) (gives : Pause) (new : Nested) (due new_due : Dues) : Type 0 where
  pub before : ℕ
  pub mid : Nested
  pub gone : HasGone had before old mid due new_due
  pub last : IsAdvance before left mid gives new

-- The thread has gone over some tallies, each of which is due now, and one more advance was refused memory.
pub record RefusedOver (had left : ℕ) (old new : Nested) (due new_due : Dues) : Type 0 where
  pub before : ℕ
  pub mid : Nested
  pub gone : HasGone had before old mid due new_due
  pub last : IsRefusedAdvance before left mid new
