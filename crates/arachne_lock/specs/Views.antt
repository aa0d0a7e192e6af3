-- The models of a set of locks and of its seats.
use Rattle.std.specs.Prelude.{◌≡◌, ℕ, ◌+◌, ◌*◌, ◌^◌, ◌<◌, List}
use Rattle.atomic_table.specs.Seated.{TableId}
use Rattle.arachne_lock.specs.{declared.event.QueueEvent.QueueEvent, declared.view.EventLog.EventLog, State.Lock}
use Rattle.arachne_lock.specs.Logs.{blank_log, split_log, cut_log, joined_log}

-- the content of a lock's slot: its state, and the events that the last call added
pub record Guarded : Type 0 where
  pub lock : Lock
  pub events : List QueueEvent

-- a set of locks: the identity of the table, and the number of locks
pub record LocksView : Type 0 where
  pub table : TableId
  pub count : ℕ

-- a seat: the table that it came from, and what it has done and seen
pub record SeatView : Type 0 where
  pub table : TableId
  pub log : EventLog

-- the seat came from these locks
abbrev pub IsSeatOf : LocksView → SeatView → Type 0
IsSeatOf locks seat = seat.table ≡ locks.table

-- the table is that of these locks, and one of them has this number
abbrev pub IsLockAt : LocksView → TableId → ℕ → Type 0
IsLockAt locks table lock = (table ≡ locks.table) × (lock < locks.count)

-- the same seat with another log
abbrev pub with_log : SeatView → EventLog → SeatView
with_log seat log = record { table = seat.table; log = log }

-- The index of a lock's guard word. Guard words are sixteen words apart, and sixteen words follow the last, so no two
-- share a cache line, and none shares one with memory beside the table.
abbrev pub word_of : ℕ → ℕ
word_of lock = 16 * (lock + 1)

-- the table has a word and a slot for each of `count` locks; their number is its key
pub record IsLaidOut (table : TableId) (key count : ℕ) : Type 0 where
  pub keyed : key ≡ count
  pub words : table.words ≡ word_of count
  pub in_range : word_of count < 2 ^ 64
  pub slots : table.slots ≡ count

-- the seat of new locks, which has done and seen nothing
abbrev pub first_seat : LocksView → SeatView
first_seat locks = record { table = locks.table; log = blank_log }

-- the parts of a seat that is split: the first counts the split, and the second has seen what the first has
abbrev pub first_half : SeatView → SeatView
first_half seat = with_log seat (split_log seat.log)

abbrev pub second_half : SeatView → SeatView
second_half seat = with_log seat (cut_log seat.log)

abbrev pub joined_with : SeatView → SeatView → SeatView
joined_with seat other = with_log seat (joined_log seat.log other.log)
