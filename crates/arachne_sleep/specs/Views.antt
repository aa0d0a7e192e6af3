-- The models of a lock and of its seats.
use Rattle.std.specs.Prelude.{◌≡◌, ℕ, Option}
use Rattle.atomic_table.specs.Seated.{TableId}
use Rattle.arachne_weights.specs.Weight.{whole, first_part, second_part, joined}
use Rattle.arachne_sleep.specs.{declared.answer.Pass.Pass, Lock.Lock, declared.view.SeatLog.SeatLog}
use Rattle.arachne_sleep.specs.{Logs.{blank_log, cut_log, joined_log}, Words.word_count}

-- the content of a lock's slot: its state, and the pass that the last call got from it
pub record Guarded : Type 0 where
  pub state : Lock
  pub last_pass : Option Pass

-- a lock: the identity of its table, and its number
pub record SleepLockView : Type 0 where
  pub table : TableId
  pub number : ℕ

-- a seat: the table that it came from, its part of the whole weight, and what it has done and seen
pub record SeatView : Type 0 where
  pub table : TableId
  pub weight : ℕ
  pub log : SeatLog

-- the seat came from this lock
pub record IsSeatOf (lock : SleepLockView) (seat : SeatView) : Type 0 where
  pub table : seat.table ≡ lock.table
  pub number : seat.log.number ≡ lock.number

-- all other seats were joined into it
abbrev pub IsWhole : SeatView → Type 0
IsWhole seat = seat.weight ≡ whole

-- the same seat with another log
abbrev pub with_log : SeatView → SeatLog → SeatView
with_log seat log = record { table = seat.table; weight = seat.weight; log = log }

-- the table has the words of a lock and one slot, and the lock's number as its key
pub record IsLaidOut (table : TableId) (key number : ℕ) : Type 0 where
  pub keyed : key ≡ number
  pub words : table.words ≡ word_count
  pub slots : table.slots ≡ 1

-- the lock that a seat came from
abbrev pub home_of : SeatView → SleepLockView
home_of seat = record { table = seat.table; number = seat.log.number }

-- the seat of a new lock: it has the whole weight, and has done and seen nothing
abbrev pub whole_seat : SleepLockView → SeatView
whole_seat lock = record { table = lock.table; weight = whole; log = blank_log lock.number }

-- the halves of a seat: the first has what the seat has done and seen, and the second only what it has seen
abbrev pub first_half : SeatView → SeatView
first_half seat = record { table = seat.table; weight = first_part seat.weight; log = seat.log }

abbrev pub second_half : SeatView → SeatView
second_half seat = record { table = seat.table; weight = second_part seat.weight; log = cut_log seat.log }

-- a seat after another was joined into it, with what both have done and seen
abbrev pub joined_with : SeatView → SeatView → SeatView
joined_with seat other = record { table = seat.table; weight = joined seat.weight other.weight; log = joined_log seat.log other.log }
