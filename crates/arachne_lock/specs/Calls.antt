-- The result of each call, and the seat's log after it.
use Rattle.std.specs.{Prelude.{◌≡◌, ℕ, List, Option, [], ◌++◌}, declared.result.Result.Result}
use Rattle.arachne_lock.specs.declared.answer.{Admitted.Admitted, AskRefusal.AskRefusal, Released.Released}
use Rattle.arachne_lock.specs.declared.answer.{NotOwner.NotOwner, Withdrawn.Withdrawn, Attempt.Attempt}
use Rattle.arachne_lock.specs.declared.{answer.Attempt.TheVariants.{Answered, Contended}, event.QueueEvent.QueueEvent}
use Rattle.arachne_lock.specs.{History.IsSound, State.{Lock, IsLeftBy, IsAsked, IsFreed, IsWithdrawn, IsChecked}}
use Rattle.arachne_lock.specs.{Deeds.{asked_events, freed_events, withdrawn_events}, Logs.{contended_log, answered_log}}
use Rattle.arachne_lock.specs.{Views.{SeatView, with_log}, Steps.GoesOnFrom}

-- A call on a lock with this history and state, to which it adds these events. Both histories are sound, and the one
-- before begins with all that the seat had seen of the lock. The states are those after the histories. The seat's log
-- then has what the call added.
pub record IsCallOn (lock : ℕ) (old new : SeatView) (history events : List QueueEvent) (before after : Lock) : Type 0 where
  pub sound : IsSound history
  pub begins : GoesOnFrom lock history old.log
  pub left : IsLeftBy history before
  pub sound_after : IsSound (history ++ events)
  pub left_after : IsLeftBy (history ++ events) after
  pub told : new ≡ with_log old (answered_log old.log lock history events)

-- a call that adds these events, and whose states before and after fulfil the relation
abbrev pub HasCalled : ℕ → SeatView → SeatView → List QueueEvent → (Lock → Lock → Type 0) → Type 0
HasCalled lock old new events answers = (history : List QueueEvent) × (before : Lock) × (after : Lock) × IsCallOn lock old new history events before after × answers before after

-- the one try found the guard taken, and changed nothing
abbrev pub IsContended : ℕ → SeatView → SeatView → Type 0
IsContended lock old new = new ≡ with_log old (contended_log old.log lock)

abbrev pub AskAnswer : ℕ → ℕ → SeatView → Attempt (Result Admitted AskRefusal) → SeatView → Type 0
AskAnswer lock who old (Answered answer) new = HasCalled lock old new (asked_events who answer) (λ before after. IsAsked before after who answer)
AskAnswer lock who old Contended new = IsContended lock old new

abbrev pub FreeAnswer : ℕ → ℕ → SeatView → Attempt (Result Released NotOwner) → SeatView → Type 0
FreeAnswer lock who old (Answered answer) new = HasCalled lock old new (freed_events who answer) (λ before after. IsFreed before after who answer)
FreeAnswer lock who old Contended new = IsContended lock old new

abbrev pub WithdrawAnswer : ℕ → ℕ → SeatView → Attempt Withdrawn → SeatView → Type 0
WithdrawAnswer lock who old (Answered answer) new = HasCalled lock old new (withdrawn_events who answer) (λ before after. IsWithdrawn before after who answer)
WithdrawAnswer lock who old Contended new = IsContended lock old new

abbrev pub CheckAnswer : ℕ → ℕ → SeatView → Attempt (Option ℕ) → SeatView → Type 0
CheckAnswer lock who old (Answered answer) new = HasCalled lock old new [] (λ before after. IsChecked before after who answer)
CheckAnswer lock who old Contended new = IsContended lock old new
