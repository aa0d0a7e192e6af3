-- The knowledge of one share: a sum for each ledger, which is not reduced, and its last reading.
use Rattle.std.specs.Prelude.{ℕ, ◌+◌, List, [], ◌∷◌, replicate, slice_index, slice_set}
use Rattle.std.specs.declared.option.Option.TheVariants.{None, Some}
use Rattle.arachne_ledger.specs.declared.share.Known.{Known}

abbrev pub Sums : Type 0
Sums = List ℕ

-- the sums after an amount was added to one ledger
abbrev pub raised : Sums → ℕ → ℕ → Sums
raised sums ledger amount = slice_set sums ledger (slice_index sums ledger + amount)

-- the sums of two shares together, ledger by ledger
abbrev pub plus : Sums → Sums → Sums
plus [] ys = ys
plus (x ∷ xs) [] = x ∷ xs
plus (x ∷ xs) (y ∷ ys) = (x + y) ∷ plus xs ys

-- the knowledge of a share of this number of ledgers that has added and read nothing
abbrev pub blank : ℕ → Known
blank count = record { sums = replicate count 0; last_read = None }

-- the knowledge of a share after an amount was added to one ledger
abbrev pub after_adding : Known → ℕ → ℕ → Known
after_adding known ledger amount = record known { sums = raised known.sums ledger amount }

-- the knowledge of a share after it has found a number in the word of a ledger
abbrev pub after_reading : Known → ℕ → ℕ → Known
after_reading known ledger number = record known { last_read = Some (record { ledger = ledger; number = number }) }

-- the knowledge of a share after another was joined into it
abbrev pub after_joining : Known → Known → Known
after_joining known other = record known { sums = plus known.sums other.sums }
