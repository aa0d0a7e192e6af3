-- The invariant of a lock's word, its slot and the records of all seats between any two steps.
use Rattle.std.specs.Prelude.{◌≡◌, ℕ, ◌≤◌, true, false, if◌then◌else◌, List, [], ◌∷◌, All, length, slice_index}
use Rattle.std.specs.List.{sum_by}
use mathlib.Core.Option.{some}
use mathlib.Core.Option as maybe
use lib.ListN.{get_elem?}
use Rattle.atomic_table.specs.Table.{State}
use Rattle.arachne_sleep.specs.{Histories.{BeginsWith, StandsIn, IsGrantedIn, times_at, once_below}, History.IsSound}
use Rattle.arachne_sleep.specs.{Logs.{blank_log, cut_log, joined_log}, Trace.{Entry, Tells}, Views.{Guarded, SeatView}}
use Rattle.arachne_sleep.specs.{Words.{guard_word, word_count}, declared.{event.LockEvent.LockEvent, view.Known.Known}}
use Rattle.arachne_sleep.specs.declared.view.SeatLog.{SeatLog}
use Rattle.arachne_weights.specs.{declared.token.Token.Token, Tokens.{held, spent, IsReachable}}
use Rattle.arachne_weights.specs.Weight.{whole, first_part, second_part, joined}

abbrev pub Board : Type 0
Board = State Guarded (Token Known)

abbrev pub idle_known : SeatLog → Known
idle_known log = record { taken = false; log = log }

abbrev pub taken_known : SeatLog → Known
taken_known log = record { taken = true; log = log }

abbrev pub blank : Known
blank = idle_known (blank_log 0)

-- the log of one seat agrees with the lock's number and its history; a seat that has the guard has seen all of the
-- history
pub record Fits (number : ℕ) (history : List LockEvent) (t : Token Known) : Type 0 where
  pub numbered : t.live ≡ true → t.known.log.number ≡ number
  pub seen : All (BeginsWith history) t.known.log.seen
  pub made : All (StandsIn history) t.known.log.made
  pub passes : All (IsGrantedIn number history) t.known.log.passes
  pub at_guard : t.known.taken ≡ true → t.known.log.seen ≡ history ∷ []

-- the number of events that the seats have made at the place
abbrev pub made_at : ℕ → List (Token Known) → ℕ
made_at k views = sum_by (λ (t : Token Known). times_at k t.known.log.made) views

-- the number of seats that have the guard
abbrev pub guards : List (Token Known) → ℕ
guards views = sum_by (λ (t : Token Known). if t.known.taken then 1 else 0) views

-- the slot is in the table, with the state that has this history
abbrev pub IsHome : ℕ → List LockEvent → List (maybe.Option Guarded) → Type 0
IsHome number history homes = (guarded : Guarded) × (get_elem? homes 0 ≡ some (some guarded)) × (guarded.state ≡ record { number = number; history = history })

pub record IsLawful (number : ℕ) (board : Board) (history : List LockEvent) : Type 0 where
  pub sound : IsSound history
  pub shared : IsReachable blank board.views
  pub counted : length board.words ≡ word_count
  pub fits : (i : ℕ) (t : Token Known) → get_elem? board.views i ≡ some t → Fits number history t
  -- the events of the history are those that the seats made, each once
  pub once : (k : ℕ) → made_at k board.views ≡ once_below k (length history)
  -- the guard word is 1 if one seat has the guard, and otherwise 0, with the state in the table
  pub guard : slice_index board.words guard_word ≡ guards board.views
  pub one_guard : guards board.views ≤ 1
  pub home : slice_index board.words guard_word ≡ 0 → IsHome number history board.homes

-- there is one history, and one trace of all steps
pub record IsKept (number : ℕ) (board : Board) : Type 0 where
  pub history : List LockEvent
  pub trace : List Entry
  pub lawful : IsLawful number board history
  pub tells : Tells trace board.words board.views

-- ---- the first seat, a split and a join

abbrev pub first_view : ℕ → Token Known
first_view number = held whole (idle_known (blank_log number))

abbrev pub first_seat : Token Known → Token Known
first_seat t = held (first_part t.weight) t.known

abbrev pub second_seat : Token Known → Token Known
second_seat t = held (second_part t.weight) (idle_known (cut_log t.known.log))

abbrev pub joined_seat : Token Known → Token Known → Token Known
joined_seat t u = held (joined t.weight u.weight) (idle_known (joined_log t.known.log u.known.log))

abbrev pub spent_seat : Token Known
spent_seat = spent blank

-- the slots of a new lock
abbrev pub IsFirstSlot : ℕ → List Guarded → Type 0
IsFirstSlot number slots = (guarded : Guarded) × (slots ≡ guarded ∷ []) × (guarded.state ≡ record { number = number; history = [] })

-- the invariant allows a board on which the seat with the whole weight has this seat's log
pub record IsLawfulEnd (number : ℕ) (seat : SeatView) : Type 0 where
  pub board : Board
  pub kept : IsKept number board
  pub place : ℕ
  pub there : get_elem? board.views place ≡ some (held whole (idle_known seat.log))
