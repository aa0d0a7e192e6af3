-- A thread's request, its result, and how the thread stops.
use Rattle.std.specs.Prelude.{◌≡◌, ◌≢◌, ℕ, List, Option, None, Some, Result, IsSomeAnd}
use Rattle.arachne_machine.specs.declared.pause.Pending.{Pending}
use Rattle.arachne_machine.specs.declared.pause.Pending.TheVariants as pause
use Rattle.arachne_workers.specs.declared.dispatch.ThreadStop.{ThreadStop}
use Rattle.arachne_workers.specs.declared.dispatch.ThreadStop.TheVariants as stop
use Rattle.arachne_jobs.specs.declared.openings.Due.{Due}
use Rattle.arachne_ledger.specs.Sums.{raised}
use Rattle.arachne_sleep.specs.{Calls.{AskAnswer, CheckAnswer}, SleepLocks.ChangesAt, Views.SeatView}
use Rattle.arachne_sleep.specs.declared.answer.{AskFault.AskFault, Asked.Asked, Pass.Pass, Tried.TheVariants.Answered}
use Rattle.arachne_sleep.specs.declared.who.Who.{Who}
use Rattle.arachne_run.specs.declared.granted.LockCall.{LockCall}
use Rattle.arachne_run.specs.declared.granted.Granted.{Granted}

-- true if the pass says that this thread holds this lock
abbrev pub IsPassFor : ℕ → Who → Pass → Type 0
IsPassFor lock who pass = (pass.lock ≡ lock) × (pass.who ≡ who)

-- true if this kind of call has shown that this thread holds this lock
abbrev pub IsGrantBy : LockCall → ℕ → Who → Granted → Type 0
IsGrantBy call lock who granted = IsPassFor lock who granted.pass.value × (granted.call.value ≡ call)

-- true if an attempt to ask for this lock, for this thread, got this answer
abbrev pub HasAsked : ℕ → Who → Result Asked AskFault → List SeatView → List SeatView → Type 0
HasAsked lock who answer before after = ChangesAt lock before after (λ old new. AskAnswer lock who old (Answered answer) new)

-- true if an attempt to check that this thread holds this lock got this answer
abbrev pub HasChecked : ℕ → Who → Option Pass → List SeatView → List SeatView → Type 0
HasChecked lock who answer before after = ChangesAt lock before after (λ old new. CheckAnswer lock who old (Answered answer) new)

-- a thread that asks for this lock waits for it and has what it had, or goes on with a pass of it by this call
abbrev pub IsServed : LockCall → ℕ → Who → Option Granted → Option Granted → ThreadStop → Type 0
IsServed call lock who old new (stop.Waits awaited) = (awaited ≡ lock) × (new ≡ old)
IsServed call lock who old new stop.Goes = IsSomeAnd new (IsGrantBy call lock who)
IsServed call lock who old new _ = ⊥

-- true if the amount that was due, if any, was added once to the share's sum for its ledger
pub record IsSettled (due : Due) (old new : List ℕ) : Type 0 where
  pub none : due.amount ≡ 0 → new ≡ old
  pub some : due.amount ≢ 0 → new ≡ raised old due.ledger due.amount

-- A thread with this pause stops so: it waits for the lock that it asks for, awaits a child, or has ended. Otherwise it
-- goes on.
abbrev pub StopsAt : ThreadStop → Option Pending → Type 0
StopsAt (stop.Waits lock) pending = pending ≡ Some (pause.Asks lock)
StopsAt stop.Blocks pending = pending ≡ Some pause.Joins
StopsAt stop.Ends pending = pending ≡ Some pause.Ended
StopsAt stop.Goes pending = pending ≡ None
StopsAt stop.Spilled pending = pending ≡ None
StopsAt (stop.Posted post) pending = pending ≡ None
StopsAt (stop.Wakes next) pending = pending ≡ None
