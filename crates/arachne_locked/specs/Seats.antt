-- The seats of a locked table, and their counts.
use Rattle.std.specs.Prelude.{◌≡◌, ℕ, ◌+◌, ◌-◌, ◌^◌, ◌<◌, if◌then◌else◌, nat_lt, List, length}
use Rattle.arachne_contexts.specs.Out.{Out}
use Rattle.arachne_locked.specs.declared.tokens.{LockedClaim.LockedClaim, LockedHold.LockedHold}

-- the model of a seat: its carrier, its weight, and the number of claims and threads that are out with it
pub record SeatView : Type 0 where
  pub carrier : ℕ
  pub weight : ℕ
  pub out : ℕ

-- the greatest count, which no longer changes
abbrev pub most_out : ℕ
most_out = 2 ^ 32 - 1

abbrev pub one_more : ℕ → ℕ
one_more out = if nat_lt out most_out then out + 1 else out

abbrev pub one_fewer : ℕ → ℕ
one_fewer out = if nat_lt out most_out then out - 1 else out

-- the seat has counted `count`, unless its count is the greatest
abbrev pub HasCounted : SeatView → ℕ → Type 0
HasCounted seat count = seat.out < most_out → seat.out ≡ count

-- the seat has counted all that is out with it
abbrev pub CountsOut : SeatView → List (Out LockedClaim LockedHold) → Type 0
CountsOut seat outs = HasCounted seat (length outs)
