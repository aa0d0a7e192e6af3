-- The knowledge of a seat after each kind of step that it makes.
use Rattle.std.specs.Prelude.{◌≡◌, ◌≢◌, ℕ, All, [], ◌∷◌, List, Option, IfSome}
use Rattle.atomic_table.specs.{Table.Me, Seated.TableId}
use Rattle.arachne_sleep.specs.{declared.event.LockEvent.LockEvent, declared.answer.Pass.Pass, History.IsSound}
use Rattle.arachne_sleep.specs.{Lock.Lock, Views.{Guarded, SleepLockView}, declared.view.Known.Known}
use Rattle.arachne_weights.specs.{declared.token.Token.Token, Tokens.held}
use Rattle.arachne_sleep.specs.{declared.view.SeatLog.SeatLog, Histories.{BeginsWith, IsGrantedIn}}
use Rattle.arachne_sleep.specs.{Logs.{contended_log, taken_log, given_back_log}, Rule.{idle_known, taken_known}}

-- a seat's record, and the slots that it may access
abbrev pub Mine : Type 0
Mine = Me Guarded (Token Known)

-- a seat between calls
abbrev pub idle : ℕ → SeatLog → Mine
idle weight log = (held weight (idle_known log), [])

-- a seat that has the guard, and the slot with this content
abbrev pub with_guard : ℕ → SeatLog → Guarded → Mine
with_guard weight log guarded = (held weight (taken_known log), (0, guarded) ∷ [])

-- the state that a seat with this log has taken: it has the lock's number, and a sound history that begins with each
-- one that the seat had seen
pub record Extends (log : SeatLog) (guarded : Guarded) : Type 0 where
  pub numbered : guarded.state.number ≡ log.number
  pub sound : IsSound guarded.state.history
  pub begins : All (BeginsWith guarded.state.history) log.seen

-- If the guard was free, the seat has the state now, whose history begins with each one that the seat had seen.
-- Otherwise the seat has found the guard taken.
abbrev pub Takes : Mine → ℕ → Mine → Type 0
Takes before found after =
    (found ≡ 0 → (guarded : Guarded) × (after ≡ with_guard before.0.weight (taken_log before.0.known.log guarded.state.history) guarded) × Extends before.0.known.log guarded)
    × (found ≢ 0 → after ≡ idle before.0.weight (contended_log before.0.known.log))

-- the state is put back into the table, as it is in the seat's slot
abbrev pub GivesBack : Mine → Mine → Type 0
GivesBack before after = (guarded : Guarded) → before.1 ≡ (0, guarded) ∷ [] → after ≡ idle before.0.weight (given_back_log before.0.known.log guarded.state.history guarded.last_pass)

-- the guard was free, and the seat has it now, with the state
abbrev pub HasTaken : ℕ → SeatLog → Mine → Type 0
HasTaken weight log me = (guarded : Guarded) × (me ≡ with_guard weight (taken_log log guarded.state.history) guarded) × Extends log guarded

-- within a call: the seat belongs to this lock, and has its slot
abbrev pub HasSlot : SleepLockView → TableId → Mine → Type 0
HasSlot lock table me = (table ≡ lock.table) × ((guarded : Guarded) × (me.1 ≡ (0, guarded) ∷ []))

-- the content of the slot that the seat has taken has changed, and nothing else
pub record Visits (home away : TableId) (before after : Mine) (old new : Guarded) : Type 0 where
  pub own : away ≡ home
  pub was : before.1 ≡ (0, old) ∷ []
  pub view : after.0 ≡ before.0
  pub is : after.1 ≡ (0, new) ∷ []

-- the state extends another, and the pass that a call got from it is for a grant in its history
pub record GoesOn (old new : Lock) (pass : Option Pass) : Type 0 where
  pub numbered : new.number ≡ old.number
  pub begins : BeginsWith new.history old.history
  pub sound : IsSound new.history
  pub granted : IfSome pass (IsGrantedIn old.number new.history)

-- the state may be put back into the table
pub record IsReturnable (me : Mine) (guarded : Guarded) (before : List LockEvent) : Type 0 where
  pub mine : me ≡ with_guard me.0.weight me.0.known.log guarded
  pub seen : me.0.known.log.seen ≡ before ∷ []
  pub numbered : guarded.state.number ≡ me.0.known.log.number
  pub begins : BeginsWith guarded.state.history before
  pub sound : IsSound guarded.state.history
  pub granted : IfSome guarded.last_pass (IsGrantedIn me.0.known.log.number guarded.state.history)

-- the state in the slot was changed by a call that has this result and got this pass
abbrev pub HasVisited : TableId → TableId → Mine → Mine → (Lock → Lock → Type 0) → Option Pass → Type 0
HasVisited home away before after answers pass =
    (old new : Guarded) × Visits home away before after old new × answers old.state new.state × (new.last_pass ≡ pass) × IsSound new.state.history
