-- The knowledge of a seat after each kind of step that it makes.
use Rattle.std.specs.Prelude.{◌≡◌, ◌≢◌, ℕ, All, [], ◌∷◌, ◌++◌, List}
use Rattle.atomic_table.specs.{Table.{Me, Step}, Seated.TableId}
use Rattle.arachne_lock.specs.declared.{event.QueueEvent.QueueEvent, view.KnownLocks.KnownLocks, view.EventLog.EventLog}
use Rattle.arachne_lock.specs.{declared.view.Sight.Sight, History.IsSound, State.{Lock, IsLeftBy}, Placed.BeginsWith}
use Rattle.arachne_lock.specs.Logs.{sight, contended_log, taken_log, given_back_log}
use Rattle.arachne_lock.specs.{Views.{Guarded, LocksView, word_of}, Rule.{idle_known, taken_known, IsLawfulSeat}}

-- a seat's view, and the slots that are with it
abbrev pub Mine : Type 0
Mine = Me Guarded KnownLocks

-- a seat between calls
abbrev pub idle : EventLog → Mine
idle log = (idle_known log, [])

-- a seat that has the lock's guard at this history, and the slot with this content
abbrev pub with_guard : ℕ → List QueueEvent → EventLog → Guarded → Mine
with_guard lock history log guarded = (taken_known (sight lock history) log, (lock, guarded) ∷ [])

-- the history begins with all that was seen of the lock
abbrev pub GoesOnFrom : ℕ → List QueueEvent → EventLog → Type 0
GoesOnFrom lock history log = All (λ (s : Sight). s.lock ≡ lock → BeginsWith history s.history) log.seen

-- the lock's state that a seat with this log has taken: it is the one after a sound history that begins with all that
-- the seat had seen of the lock
pub record Comes (lock : ℕ) (log : EventLog) (history : List QueueEvent) (guarded : Guarded) : Type 0 where
  pub sound : IsSound history
  pub left : IsLeftBy history guarded.lock
  pub begins : GoesOnFrom lock history log

-- the guard was at home, and the seat has it with the state
abbrev pub HasTaken : ℕ → EventLog → Mine → Type 0
HasTaken lock log me = (history : List QueueEvent) × (guarded : Guarded) × (me ≡ with_guard lock history (taken_log log lock history) guarded) × Comes lock log history guarded

-- If the guard was at home, the state is with the seat. Otherwise the seat has found the guard taken, and is a seat
-- that the rule allows for as many locks as there are slots.
abbrev pub Takes : Step Guarded → Mine → ℕ → Mine → Type 0
Takes step before found after = (lock : ℕ) → step.word ≡ word_of lock
    → (found ≡ 0 → HasTaken lock before.0.log after) × (found ≢ 0 → (after ≡ idle (contended_log before.0.log lock)) × IsLawfulSeat step.slots (contended_log before.0.log lock))

-- the state goes home as it is in the seat's slot, with the events that were added, and the rule allows the seat
abbrev pub GivesBack : Step Guarded → Mine → Mine → Type 0
GivesBack step before after = (lock : ℕ) (history : List QueueEvent) (guarded : Guarded) → before ≡ with_guard lock history before.0.log guarded
    → (after ≡ idle (given_back_log before.0.log lock history guarded.events)) × IsLawfulSeat step.slots (given_back_log before.0.log lock history guarded.events)

-- the state may go home
pub record IsReturnable (lock : ℕ) (history : List QueueEvent) (me : Mine) (guarded : Guarded) : Type 0 where
  pub mine : me ≡ with_guard lock history me.0.log guarded
  pub sound : IsSound (history ++ guarded.events)
  pub left : IsLeftBy (history ++ guarded.events) guarded.lock

-- the state, which may go home, is at home, and the seat's log has that
abbrev pub IsReturned : ℕ → Mine → Mine → Type 0
IsReturned lock before after = (history : List QueueEvent) (guarded : Guarded) → IsReturnable lock history before guarded
    → after ≡ idle (given_back_log before.0.log lock history guarded.events)

-- within a call: the seat belongs to these locks, and has the lock's slot
abbrev pub HasSlot : LocksView → TableId → Mine → ℕ → Type 0
HasSlot locks table me lock = (table ≡ locks.table) × ((guarded : Guarded) × (me.1 ≡ (lock, guarded) ∷ []))

-- the content of the slot that is with the seat has changed, and nothing else
pub record Visits (lock : ℕ) (home away : TableId) (before after : Mine) (old new : Guarded) : Type 0 where
  pub own : away ≡ home
  pub was : before.1 ≡ (lock, old) ∷ []
  pub view : after.0 ≡ before.0
  pub is : after.1 ≡ (lock, new) ∷ []

-- the state in the slot was changed by a call that has this result and adds these events
abbrev pub HasVisited : ℕ → TableId → TableId → Mine → Mine → (Lock → Lock → Type 0) → List QueueEvent → Type 0
HasVisited lock home away before after answers events = (old new : Guarded) × Visits lock home away before after old new × answers old.lock new.lock × (new.events ≡ events)
