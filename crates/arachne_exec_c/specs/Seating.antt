-- The seat that a handle on locks holds, and its change by each call.
use Rattle.std.specs.Prelude.{◌≡◌, ℕ, ◌<◌, ◌≤◌, Bool, true, false}
use Rattle.std.specs.declared.option.Option.{Option}
use Rattle.std.specs.declared.option.Option.TheVariants.{None, Some}
use Rattle.arachne_lock.specs.Views.{LocksView, SeatView, first_seat, first_half, second_half, joined_with}
use Rattle.arachne_exec_c.specs.Codes.{done, refused, no_memory}

-- a seat, and the locks that it came from
pub record Seating : Type 0 where
  pub locks : LocksView
  pub seat : SeatView

-- `count` locks, and a seat that has done nothing
pub record IsNew (count : ℕ) (seating : Seating) : Type 0 where
  pub counted : seating.locks.count ≡ count
  pub first : seating.seat ≡ first_seat seating.locks

abbrev pub HasLock : ℕ → Seating → Type 0
HasLock lock seating = lock < seating.locks.count

-- the same locks, with another seat
abbrev pub with_seat : Seating → SeatView → Seating
with_seat seating seat = record seating { seat = seat }

-- the parts of a seat that is split
abbrev pub first_of : Seating → Seating
first_of seating = with_seat seating (first_half seating.seat)

abbrev pub second_of : Seating → Seating
second_of seating = with_seat seating (second_half seating.seat)

abbrev pub joined_of : Seating → Seating → Seating
joined_of seating other = with_seat seating (joined_with seating.seat other.seat)

-- An empty handle gets new locks. A handle in use is refused. If memory is refused, nothing changes.
abbrev pub IsMade : ℕ → Option Seating → Option Seating → ℕ → Type 0
IsMade count (Some old) new answer = (answer ≡ refused) × (new ≡ Some old)
IsMade count None None answer = answer ≡ no_memory
IsMade count None (Some new) answer = (answer ≡ done) × IsNew count new

-- If the first handle holds a seat and the second is empty, the seat is split, and the second handle gets the new seat.
-- If memory is refused, nothing changes.
abbrev pub IsSplit : Option Seating → Option Seating → Option Seating → Option Seating → ℕ → Type 0
IsSplit None other new other_new answer = (answer ≡ refused) × (new ≡ None) × (other_new ≡ other)
IsSplit (Some old) (Some other) new other_new answer = (answer ≡ refused) × (new ≡ Some old) × (other_new ≡ Some other)
IsSplit (Some old) None new None answer = (answer ≡ no_memory) × (new ≡ Some old)
IsSplit (Some old) None new (Some other) answer = (answer ≡ done) × (new ≡ Some (first_of old)) × (other ≡ second_of old)

-- The second handle's seat is joined into the first's, if both hold one.
abbrev pub IsJoined : Option Seating → Option Seating → Option Seating → Option Seating → ℕ → Type 0
IsJoined (Some old) (Some other) new other_new answer = (answer ≡ done) × (new ≡ Some (joined_of old other)) × (other_new ≡ None)
IsJoined (Some old) None new other_new answer = (answer ≡ refused) × (new ≡ Some old) × (other_new ≡ None)
IsJoined None other new other_new answer = (answer ≡ refused) × (new ≡ None) × (other_new ≡ other)
