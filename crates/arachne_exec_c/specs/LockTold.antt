-- The results of a lock, as C gets them.
use Rattle.std.specs.Prelude.{◌≡◌, ℕ, ◌<◌, ◌≤◌}
use Rattle.std.specs.declared.option.Option.{Option}
use Rattle.std.specs.declared.option.Option.TheVariants.{None, Some}
use Rattle.std.specs.declared.result.Result.{Result}
use Rattle.std.specs.declared.result.Result.TheVariants.{Ok, Err}
use Rattle.arachne_lock.specs.declared.answer.Admitted.{Admitted}
use Rattle.arachne_lock.specs.declared.answer.Admitted.TheVariants.{Granted, Queued}
use Rattle.arachne_lock.specs.declared.answer.AskRefusal.{AskRefusal}
use Rattle.arachne_lock.specs.declared.answer.AskRefusal.TheVariants.{AlreadyIn, Memory}
use Rattle.arachne_lock.specs.declared.answer.Released.{Released}
use Rattle.arachne_lock.specs.declared.answer.NotOwner.{NotOwner}
use Rattle.arachne_lock.specs.declared.answer.Withdrawn.{Withdrawn}
use Rattle.arachne_lock.specs.declared.answer.Withdrawn.TheVariants.{Left, Holds, Outside}
use Rattle.arachne_lock.specs.declared.answer.Attempt.{Attempt}
use Rattle.arachne_lock.specs.declared.answer.Attempt.TheVariants.{Answered, Contended}
use Rattle.arachne_lock.specs.Calls.{AskAnswer, FreeAnswer, WithdrawAnswer, CheckAnswer}
use Rattle.arachne_lock.specs.Rule.{IsLawfulSeat}
use Rattle.arachne_lock.specs.Views.{SeatView}
use Rattle.arachne_exec_c.specs.Codes as code
use Rattle.arachne_exec_c.specs.Seating.{Seating, HasLock, with_seat}
use Rattle.arachne_exec_c.specs.declared.told.ArachneLockTold.{ArachneLockTold}

-- only a code, and a code with the number of an event
abbrev pub code_alone : ℕ → ArachneLockTold
code_alone k = record { at = 0; next = 0; code = k }

abbrev pub code_at : ℕ → ℕ → ArachneLockTold
code_at k at = record { at = at; next = 0; code = k }

abbrev pub told_asked : Attempt (Result Admitted AskRefusal) → ArachneLockTold
told_asked Contended = code_alone code.contended
told_asked (Answered (Ok (Granted at))) = code_at code.granted at
told_asked (Answered (Ok (Queued at))) = code_at code.queued at
told_asked (Answered (Err AlreadyIn)) = code_alone code.already_in
told_asked (Answered (Err Memory)) = code_alone code.no_memory

-- a free, and the task to which it handed the lock on, if any
abbrev pub told_handed : ℕ → Option ℕ → ArachneLockTold
told_handed at None = code_at code.freed at
told_handed at (Some next) = record { at = at; next = next; code = code.handed_on }

abbrev pub told_freed : Attempt (Result Released NotOwner) → ArachneLockTold
told_freed Contended = code_alone code.contended
told_freed (Answered (Ok freed)) = told_handed freed.at freed.next
told_freed (Answered (Err fault)) = code_alone code.not_holder

abbrev pub told_withdrawn : Attempt Withdrawn → ArachneLockTold
told_withdrawn Contended = code_alone code.contended
told_withdrawn (Answered (Left at)) = code_at code.left at
told_withdrawn (Answered (Holds at)) = code_at code.granted at
told_withdrawn (Answered Outside) = code_alone code.not_holder

abbrev pub told_checked : Attempt (Option ℕ) → ArachneLockTold
told_checked Contended = code_alone code.contended
told_checked (Answered None) = code_alone code.not_holder
told_checked (Answered (Some at)) = code_at code.granted at

-- The lock gave the seat a result, as `arachne_lock` defines it, and C gets this result. The invariant of these locks
-- allows a board on which the seat has this record. If there is no such lock, nothing changes, and C gets the refusal.
pub record IsTold {A : Type 0} (answers : SeatView → A → SeatView → Type 0) (tell : A → ArachneLockTold) (lock : ℕ) (old : Seating) (new : Option Seating) (told : ArachneLockTold) : Type 0 where
  pub known : HasLock lock old → (seat : SeatView) × (answer : A) × (new ≡ Some (with_seat old seat)) × answers old.seat answer seat × IsLawfulSeat old.locks.count seat.log × (told ≡ tell answer)
  pub unknown : ¬ HasLock lock old → (new ≡ Some old) × (told ≡ code_alone code.refused)

abbrev pub IsAskTold : ℕ → ℕ → Option Seating → Option Seating → ArachneLockTold → Type 0
IsAskTold lock who None new told = (new ≡ None) × (told ≡ code_alone code.refused)
IsAskTold lock who (Some old) new told = IsTold (AskAnswer lock who) told_asked lock old new told

abbrev pub IsFreeTold : ℕ → ℕ → Option Seating → Option Seating → ArachneLockTold → Type 0
IsFreeTold lock who None new told = (new ≡ None) × (told ≡ code_alone code.refused)
IsFreeTold lock who (Some old) new told = IsTold (FreeAnswer lock who) told_freed lock old new told

abbrev pub IsWithdrawTold : ℕ → ℕ → Option Seating → Option Seating → ArachneLockTold → Type 0
IsWithdrawTold lock who None new told = (new ≡ None) × (told ≡ code_alone code.refused)
IsWithdrawTold lock who (Some old) new told = IsTold (WithdrawAnswer lock who) told_withdrawn lock old new told

abbrev pub IsCheckTold : ℕ → ℕ → Option Seating → Option Seating → ArachneLockTold → Type 0
IsCheckTold lock who None new told = (new ≡ None) × (told ≡ code_alone code.refused)
IsCheckTold lock who (Some old) new told = IsTold (CheckAnswer lock who) told_checked lock old new told
