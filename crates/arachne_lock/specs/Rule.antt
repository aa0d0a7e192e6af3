-- The rule of a set of locks: what words, slots and views show between any two steps.
use Rattle.std.specs.Prelude.{◌≡◌, ◌≢◌, ℕ, ◌<◌, ◌≤◌, ◌==◌, true, false, if◌then◌else◌, List, [], ◌∷◌, ◌++◌, All, length, slice_index, slice_set}
use Rattle.std.specs.{List.sum_by, declared.option.Option.Option, declared.option.Option.TheVariants.{None, Some}}
use mathlib.Core.Option.{some}
use mathlib.Core.Option as maybe
use lib.ListN.{get_elem?}
use Rattle.atomic_table.specs.Table.{State}
use Rattle.arachne_lock.specs.declared.{event.QueueEvent.QueueEvent, view.KnownLocks.KnownLocks, view.EventLog.EventLog}
use Rattle.arachne_lock.specs.{declared.view.Sight.Sight, History.IsSound, State.IsLeftBy}
use Rattle.arachne_lock.specs.Placed.{BeginsWith, StandsIn, times_at, once_below}
use Rattle.arachne_lock.specs.{Logs.{blank_log, split_log, cut_log, joined_log}, Views.{Guarded, word_of}}

abbrev pub Board : Type 0
Board = State Guarded KnownLocks

-- the histories of all locks, by their numbers
abbrev pub Histories : Type 0
Histories = ℕ → List QueueEvent

-- the knowledge of a seat in use, with the lock state `out` and this log
abbrev pub known : Option Sight → EventLog → KnownLocks
known out log = record { live = true; out = out; log = log }

abbrev pub idle_known : EventLog → KnownLocks
idle_known log = known None log

abbrev pub taken_known : Sight → EventLog → KnownLocks
taken_known out log = known (Some out) log

-- the knowledge of a seat after it was joined into another
abbrev pub spent : KnownLocks
spent = record { live = false; out = None; log = blank_log }

-- 1 if that is the state of this lock, and otherwise 0
abbrev pub is_of : ℕ → Option Sight → ℕ
is_of lock None = 0
is_of lock (Some s) = if s.lock == lock then 1 else 0

-- the number of seats that have the lock's guard
abbrev pub guards : ℕ → List KnownLocks → ℕ
guards lock views = sum_by (λ (v : KnownLocks). is_of lock v.out) views

-- the number of events that the seats have made at the lock's place
abbrev pub made_at : ℕ → ℕ → List KnownLocks → ℕ
made_at lock at views = sum_by (λ (v : KnownLocks). times_at lock at v.log.made) views

-- the lock's history begins with what was seen of it
abbrev pub IsSeenIn : Histories → Sight → Type 0
IsSeenIn histories s = BeginsWith (histories s.lock) s.history

-- the log of one seat agrees with the histories; if the seat has a guard, it has seen all of that lock's history
pub record Fits (histories : Histories) (v : KnownLocks) : Type 0 where
  pub seen : All (IsSeenIn histories) v.log.seen
  pub made : All (StandsIn histories) v.log.made
  pub at_guard : (s : Sight) → v.out ≡ Some s → s.history ≡ histories s.lock

-- the lock's slot is at home, with the state after this history
abbrev pub IsHome : ℕ → List QueueEvent → List (maybe.Option Guarded) → Type 0
IsHome lock history homes = (guarded : Guarded) × (get_elem? homes lock ≡ some (some guarded)) × IsLeftBy history guarded.lock

-- The lists of seats that are possible. At first there is one seat. Then, one after another, a seat makes a step, is
-- split, which it counts, or another is joined into it. A new seat is appended at the end.
pub data HaveCome : List KnownLocks → Type 0 where
  begins : HaveCome (idle_known blank_log ∷ [])
  acts : {seats : List KnownLocks} → HaveCome seats → (i : ℕ) (out now : Option Sight) (before after : EventLog) → get_elem? seats i ≡ some (known out before) → after.splits ≡ before.splits
      → HaveCome (slice_set seats i (known now after))
  splits : {seats : List KnownLocks} → HaveCome seats → (i : ℕ) (log : EventLog) → get_elem? seats i ≡ some (idle_known log)
      → HaveCome (slice_set seats i (idle_known (split_log log)) ++ idle_known (cut_log log) ∷ [])
  joins : {seats : List KnownLocks} → HaveCome seats → (i j : ℕ) (log other : EventLog) → get_elem? seats i ≡ some (idle_known log) → j ≢ i → get_elem? seats j ≡ some (idle_known other)
      → HaveCome (slice_set (slice_set seats i (idle_known (joined_log log other))) j spent)

-- The rule: each lock has one history, and each seat but the first was split off another, which counts it.
pub record IsKept (locks : ℕ) (board : Board) : Type 0 where
  pub seats : HaveCome board.views
  pub histories : Histories
  pub counted : length board.words ≡ word_of locks
  pub sound : (lock : ℕ) → IsSound (histories lock)
  pub fits : (i : ℕ) (v : KnownLocks) → get_elem? board.views i ≡ some v → Fits histories v
  -- the events of a history are those that the seats made, each once
  pub once : (lock at : ℕ) → made_at lock at board.views ≡ once_below at (length (histories lock))
  -- a guard word is 1 if one seat has the guard, and otherwise 0 with the lock's state at home
  pub guard : (lock : ℕ) → lock < locks → slice_index board.words (word_of lock) ≡ guards lock board.views
  pub one_guard : (lock : ℕ) → lock < locks → guards lock board.views ≤ 1
  pub home : (lock : ℕ) → lock < locks → slice_index board.words (word_of lock) ≡ 0 → IsHome lock (histories lock) board.homes

-- ---- the first seat, a split and a join

abbrev pub blank : KnownLocks
blank = idle_known blank_log

abbrev pub first_view : ℕ → KnownLocks
first_view locks = blank

abbrev pub split_view : KnownLocks → KnownLocks
split_view v = idle_known (split_log v.log)

abbrev pub second_view : KnownLocks → KnownLocks
second_view v = idle_known (cut_log v.log)

abbrev pub joined_view : KnownLocks → KnownLocks → KnownLocks
joined_view v u = idle_known (joined_log v.log u.log)

-- the slots of new locks
abbrev pub AreFirstSlots : ℕ → List Guarded → Type 0
AreFirstSlots locks slots = (length slots ≡ locks) × All (λ (g : Guarded). IsLeftBy [] g.lock) slots

-- the rule of that number of locks allows a board on which a seat has this log
pub record IsLawfulSeat (locks : ℕ) (log : EventLog) : Type 0 where
  pub board : Board
  pub kept : IsKept locks board
  pub place : ℕ
  pub there : get_elem? board.views place ≡ some (idle_known log)
