-- The indexes of an executor's words.
use Rattle.std.specs.Prelude.{◌≡◌, ℕ, zero, suc, [], ◌∷◌, ◌+◌, ◌-◌, ◌*◌, ◌/◌, ◌%◌, ◌^◌, ◌==◌, max, List, take, slice_index, if◌then◌else◌}
use Rattle.std.specs.Int.{bit_at}

-- a bit for each worker that is asleep, or about to be
abbrev pub idle_at : ℕ
idle_at = 0

-- a bit for each worker number that no seat has
abbrev pub numbers_at : ℕ
numbers_at = 8

-- Places come in blocks of 64, blocks in shards of 64. A shard has a summary word, with a bit for each of its blocks. A
-- block has a ready word and a free word, with a bit for each of its places, and a mark word for each place.
abbrev pub summary_at : ℕ → ℕ
summary_at shard = 24 + 96 * shard

abbrev pub ready_at : ℕ → ℕ
ready_at block = 16 + 96 * block

abbrev pub free_at : ℕ → ℕ
free_at block = 32 + 96 * block

abbrev pub mark_at : ℕ → ℕ
mark_at place = 48 + 96 * (place / 64) + place % 64

abbrev pub words_of : ℕ → ℕ
words_of blocks = 16 + 96 * blocks

-- the number of the worker that runs a shard's jobs
abbrev pub worker_of : ℕ → ℕ
worker_of shard = shard % 64

-- all bits but this one
abbrev pub others : ℕ → ℕ
others i = 2 ^ 64 - 1 - 2 ^ i

-- the bit of a place in the word of its block, or of a block in the word of its shard
abbrev pub in_word : (ℕ → ℕ) → List ℕ → ℕ → ℕ
in_word at words place = bit_at (slice_index words (at (place / 64))) (place % 64)

-- the places of a block whose bits are set in a word, of the next bits from this index on
abbrev pub places_from : ℕ → ℕ → ℕ → ℕ → List ℕ
places_from block word i zero = []
places_from block word i (suc more) = if bit_at word i == 1 then (64 * block + i) ∷ places_from block word (suc i) more else places_from block word (suc i) more

abbrev pub places_in_word : ℕ → ℕ → List ℕ
places_in_word block word = places_from block word 0 64

-- the picked places of a block are the lowest of those whose bits are set in a word: `most`, at least one, or all
pub record PicksLowest (block word most pick : ℕ) : Type 0 where
  pub first : places_in_word block pick ≡ take (max 1 most) (places_in_word block word)

-- A mark is four times the number of jobs that have ended at the place. It is 1 more if a wake of its job is recorded,
-- and 2 more if its job is blocked. A place is blocked for ever once no name can hold this number.
abbrev pub last_generation : ℕ
last_generation = 2 ^ 44 - 1

abbrev pub retired : ℕ
retired = 4 * last_generation + 2

-- the name of the job at a place with this mark
abbrev pub name_of : ℕ → ℕ → ℕ
name_of place mark = place + 2 ^ 20 * (mark / 4 % 2 ^ 44)
