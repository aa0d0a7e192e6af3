-- The value that a handle on ledgers holds, and its change by each call.
use Rattle.std.specs.Prelude.{◌≡◌, ℕ, Bool, true, false, ◌%◌, ◌^◌, ◌<◌, replicate, length, slice_index}
use Rattle.std.specs.Option.{option_map, IsSomeAnd}
use Rattle.std.specs.declared.option.Option.{Option}
use Rattle.std.specs.declared.option.Option.TheVariants.{None, Some}
use Rattle.arachne_weights.specs.Weight.{whole, first_part, second_part, joined}
use Rattle.arachne_ledger.specs.Sums.{raised, plus}
use Rattle.arachne_ledger.specs.Views.{LedgersView, ShareView, IsWhole}

-- a share, and the ledgers that it came from
pub record Adder : Type 0 where
  pub ledgers : LedgersView
  pub share : ShareView

-- `count` ledgers, and their whole share, to which nothing was added
pub record IsNew (count : ℕ) (adder : Adder) : Type 0 where
  pub counted : adder.ledgers.count ≡ count
  pub begun : adder.share ≡ record { table = adder.ledgers.table; weight = whole; sums = replicate count 0; last_read = None }

-- the amount is in the share's sum for the ledger
abbrev pub with_amount : ℕ → ℕ → Adder → Adder
with_amount ledger amount adder = record adder { share = record adder.share { sums = raised adder.share.sums ledger amount } }

abbrev pub HasLedger : ℕ → Adder → Type 0
HasLedger ledger adder = ledger < adder.ledgers.count

-- there is such a ledger, and all other shares were joined into this one
abbrev pub MayRead : ℕ → Adder → Type 0
MayRead ledger adder = HasLedger ledger adder × IsWhole adder.share

-- the sum of the amounts that were added to the ledger through the share, modulo 2^64
abbrev pub total_of : ℕ → Adder → ℕ
total_of ledger adder = slice_index adder.share.sums ledger % 2 ^ 64

-- the share records the total that it has read last
abbrev pub with_reading : ℕ → Adder → Adder
with_reading ledger adder = record adder { share = record adder.share { last_read = Some (record { ledger = ledger; number = total_of ledger adder }) } }

-- this is the total of the ledger, and the share records it
abbrev pub HasRead : (ledger total : ℕ) → Option Adder → Option Adder → Type 0
HasRead ledger total old new = IsSomeAnd old (λ adder. total ≡ total_of ledger adder) × (new ≡ option_map (with_reading ledger) old)

-- the parts of a share that is split: the first keeps its sums, and those of the second are 0
abbrev pub first_of : Adder → Adder
first_of adder = record adder { share = record adder.share { weight = first_part adder.share.weight } }

abbrev pub second_of : Adder → Adder
second_of adder = record adder {
  share = record {
    table = adder.share.table;
    weight = second_part adder.share.weight;
    sums = replicate (length adder.share.sums) 0;
    last_read = None;
  };
}

-- a share after another was joined into it
abbrev pub joined_with : Adder → Adder → Adder
joined_with adder other = record adder {
  share = record adder.share {
    weight = joined adder.share.weight other.share.weight;
    sums = plus adder.share.sums other.share.sums;
  };
}

-- the codes of a call that allocates
abbrev pub done : ℕ
done = 0

abbrev pub refused : ℕ
refused = 1

abbrev pub no_memory : ℕ
no_memory = 2

-- An empty handle gets new ledgers. A handle in use is refused. If memory is refused, nothing changes.
abbrev pub IsMade : ℕ → Option Adder → Option Adder → ℕ → Type 0
IsMade count (Some old) new answer = (answer ≡ refused) × (new ≡ Some old)
IsMade count None None answer = answer ≡ no_memory
IsMade count None (Some new) answer = (answer ≡ done) × IsNew count new

-- If the first handle holds a share and the second is empty, the share is split, and the second handle gets the new
-- share. If memory is refused, nothing changes.
abbrev pub IsSplit : Option Adder → Option Adder → Option Adder → Option Adder → ℕ → Type 0
IsSplit None other new other_new answer = (answer ≡ refused) × (new ≡ None) × (other_new ≡ other)
IsSplit (Some old) (Some other) new other_new answer = (answer ≡ refused) × (new ≡ Some old) × (other_new ≡ Some other)
IsSplit (Some old) None new None answer = (answer ≡ no_memory) × (new ≡ Some old)
IsSplit (Some old) None new (Some other) answer = (answer ≡ done) × (new ≡ Some (first_of old)) × (other ≡ second_of old)

-- The second handle's share is joined into the first's, if both hold one.
abbrev pub IsJoined : Option Adder → Option Adder → Option Adder → Option Adder → Bool → Type 0
IsJoined (Some old) (Some other) new other_new answer = (answer ≡ true) × (new ≡ Some (joined_with old other)) × (other_new ≡ None)
IsJoined (Some old) None new other_new answer = (answer ≡ false) × (new ≡ Some old) × (other_new ≡ None)
IsJoined None other new other_new answer = (answer ≡ false) × (new ≡ None) × (other_new ≡ other)
