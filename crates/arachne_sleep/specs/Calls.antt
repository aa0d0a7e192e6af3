-- The result of each call, and the seat's log after it.
use Rattle.std.specs.Prelude.{◌≡◌, ◌↔◌, ℕ, All, List, Option, Some, None, IsOk, IsSome, IfOk, IfSome, OnErr}
use Rattle.std.specs.declared.result.Result.{Result, TheVariants.{Ok, Err}}
use Rattle.arachne_sleep.specs.declared.answer.Asked.{Asked, TheVariants.{Granted, Queued}}
use Rattle.arachne_sleep.specs.declared.answer.{AskFault.{AskFault, TheVariants.AlreadyIn}, Freed.Freed, Pass.Pass}
use Rattle.arachne_sleep.specs.declared.{answer.{NotHolder.NotHolder, Tried.Tried}, who.Who.Who, view.SeatLog.SeatLog}
use Rattle.arachne_sleep.specs.{declared.answer.Tried.TheVariants.{Answered, Contended}, Holding.IsIn}
use Rattle.arachne_sleep.specs.{History.{IsSound, replay}, Lock.{Lock, owner_of, AnswersAsk, AnswersFree, IsPassOf}}
use Rattle.arachne_sleep.specs.{Histories.{BeginsWith, IsMadeOf, IsGrantedIn}, declared.event.LockEvent.LockEvent}
use Rattle.arachne_sleep.specs.{Logs.{contended_log, answered_log}, Views.{SeatView, with_log}}

-- A call on the state of the lock with this number, which changed it from `before` to `after`, by a seat that got this
-- pass. The history before the call is sound and begins with each history that the seat had seen. The seat's log then
-- has what the call added.
pub record IsCallOn (number : ℕ) (old new : SeatView) (pass : Option Pass) (before after : Lock) : Type 0 where
  pub numbered : before.number ≡ number
  pub sound : IsSound before.history
  pub begins : All (BeginsWith before.history) old.log.seen
  pub told : new ≡ with_log old (answered_log old.log before.history after.history pass)

-- ---- the results of `LockState`

pub record IsAsked (before after : Lock) (who : Who) (answer : Result Asked AskFault) : Type 0 where
  pub already : (answer ≡ Err AlreadyIn) ↔ IsIn (replay before.history) who
  pub ok : IfOk answer (AnswersAsk before after who)
  pub err : OnErr answer (after ≡ before)

pub record IsFreed (before after : Lock) (who : Who) (answer : Result Freed NotHolder) : Type 0 where
  pub holder : IsOk answer ↔ (owner_of before ≡ Some who)
  pub ok : IfOk answer (AnswersFree before after who)
  pub err : OnErr answer (after ≡ before)

pub record IsChecked (before after : Lock) (who : Who) (answer : Option Pass) : Type 0 where
  pub owner : IsSome answer ↔ (owner_of before ≡ Some who)
  pub pass : IfSome answer (IsPassOf before who)
  pub same : after ≡ before

-- the pass that an ask returns
abbrev pub pass_asked : Result Asked AskFault → Option Pass
pass_asked (Ok (Granted pass)) = Some pass
pass_asked (Ok (Queued at)) = None
pass_asked (Err fault) = None

-- ---- the results of a shared lock: those of its state, or none if the guard was seen taken

-- the try found the guard taken, and changed nothing
abbrev pub IsContended : SeatView → SeatView → Type 0
IsContended old new = new ≡ with_log old (contended_log old.log)

abbrev pub AskAnswer : ℕ → Who → SeatView → Tried (Result Asked AskFault) → SeatView → Type 0
AskAnswer number who old (Answered answer) new = (before : Lock) × (after : Lock) × IsCallOn number old new (pass_asked answer) before after × IsAsked before after who answer
AskAnswer number who old Contended new = IsContended old new

abbrev pub FreeAnswer : ℕ → Who → SeatView → Tried (Result Freed NotHolder) → SeatView → Type 0
FreeAnswer number who old (Answered answer) new = (before : Lock) × (after : Lock) × IsCallOn number old new None before after × IsFreed before after who answer
FreeAnswer number who old Contended new = IsContended old new

abbrev pub CheckAnswer : ℕ → Who → SeatView → Tried (Option Pass) → SeatView → Type 0
CheckAnswer number who old (Answered answer) new = (before : Lock) × (after : Lock) × IsCallOn number old new answer before after × IsChecked before after who answer
CheckAnswer number who old Contended new = IsContended old new

-- ---- the end

-- The history of a closed lock agrees with the log of its whole seat: it begins with each history that was seen, has
-- the events that were made and no others, each at its place and once, and has the grant for each pass.
pub record IsToldBy (log : SeatLog) (history : List LockEvent) : Type 0 where
  pub begins : All (BeginsWith history) log.seen
  pub made : IsMadeOf history log.made
  pub passes : All (IsGrantedIn log.number history) log.passes
