-- Amounts that threads have added to ledgers, and that the worker has not moved to the ledgers yet.
use Rattle.std.specs.Prelude.{◌≡◌, ◌≢◌, ◌⊎◌, ℕ, ◌==◌, if◌then◌else◌}
use Rattle.arachne_machine.specs.{Nested.begun_in, Outcome.Finished, Suspended.{Joined, added}}
use Rattle.arachne_machine.specs.{Tallying.{AdvancesOver, Dues}, declared.pause.Pause.Pause}
use Rattle.arachne_jobs.specs.{Cells.HasNotBegun, Threads.{Thread, IsAwaiting}, declared.openings.Due.Due}

-- the amount that the worker must still add to this ledger
abbrev pub due_to : Due → ℕ → ℕ
due_to due ledger = if ledger == due.ledger then due.amount else 0

-- true if there is an amount for another ledger than this one
abbrev pub IsOfAnother : Due → ℕ → Type 0
IsOfAnother due ledger = (due.amount ≢ 0) × (due.ledger ≢ ledger)

-- true if the thread has got this outcome of the child that it awaited, and only its `running` and `sums` have changed
abbrev pub JoinsOutcome : Thread → Thread → Finished → Type 0
JoinsOutcome old new outcome =
    Joined old.running outcome new.running × (new.sums ≡ added old.sums outcome.sums)
    × (new ≡ record old { running = new.running; sums = new.sums })

-- true if the thread no longer waits for its child: it has got the child's outcome, or the child begins inside it
abbrev pub IsJoined : Thread → Thread → Type 0
IsJoined old new =
    ((outcome : Finished) × JoinsOutcome old new outcome)
    ⊎ ((child : Thread) × HasNotBegun child × (new ≡ begun_in old child))

-- true if the thread is unchanged, or no longer waits for its child
abbrev pub MayJoin : Thread → Thread → Type 0
MayJoin old new = (new ≡ old) ⊎ (IsAwaiting old × IsJoined old new)

-- true if the thread has made steps, without a stop for its additions to ledgers, whose amounts are now due, and has
-- paused; if it has paused for a child, it may already have gone on
pub record GoesOnOver (had left : ℕ) (old new : Thread) (due new_due : Dues) : Type 0 where
  pub paused : Thread
  pub gives : Pause
  pub over : AdvancesOver had left old gives paused due new_due
  pub last : MayJoin paused new

-- true if the slice has used `had` minus `left` steps, and all that the thread has added to ledgers is due; a thread
-- that still waits is unchanged, and one that waited for a child is first joined with it
abbrev pub HasTallied : (had left : ℕ) → (old new : Thread) → (due new_due : Dues) → Type 0
HasTallied had left old new due new_due =
    ((left ≡ had) × (new ≡ old) × (new_due ≡ due))
    ⊎ ((begun : Thread) × MayJoin old begun × GoesOnOver had left begun new due new_due)
