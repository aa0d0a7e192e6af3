-- The initial values of an executor's words.
use Rattle.std.specs.Prelude.{◌≡◌, ℕ, ◌-◌, ◌%◌, ◌^◌, ◌<◌, ◌==◌, if◌then◌else◌, List, length, slice_index}
use Rattle.arachne_exec.specs.Layout.{words_of}

-- all places are free, and no seat has a worker number
abbrev pub first_word : ℕ → ℕ
first_word i = if i == 8 then 2 ^ 64 - 1 else (if i % 96 == 32 then 2 ^ 64 - 1 else 0)

abbrev pub AreFirstWords : ℕ → List ℕ → Type 0
AreFirstWords blocks words = (length words ≡ words_of blocks) × ((i : ℕ) → i < words_of blocks → slice_index words i ≡ first_word i)
