-- The knowledge of a share after each of its steps on the table.
use Rattle.std.specs.Prelude.{◌≡◌, ℕ, ◌%◌, ◌^◌, ◌<◌, length, slice_index}
use Rattle.atomic_table.specs.Table.{Step}
use Rattle.arachne_weights.specs.{Weight.whole, Tokens.held}
use Rattle.arachne_ledger.specs.{Sums.{after_adding, after_reading}, Balance.word_of, Seats.Mine}

-- the amount was added to the share's sum for that ledger
abbrev pub Adds : Step (Unit {0}) → Mine → ℕ → Mine → Type 0
Adds step before found after = (ledger : ℕ) → step.word ≡ word_of ledger
    → after ≡ (held before.0.weight (after_adding before.0.known ledger step.first), before.1)

-- the share knows the number that it found in that ledger's word; a whole share finds its own sum
abbrev pub Reads : Step (Unit {0}) → Mine → ℕ → Mine → Type 0
Reads step before found after = (ledger : ℕ) → step.word ≡ word_of ledger
    → (after ≡ (held before.0.weight (after_reading before.0.known ledger found), before.1))
    × (before.0.weight ≡ whole → ledger < length before.0.known.sums → found ≡ slice_index before.0.known.sums ledger % 2 ^ 64)
