-- The next index of a search round the bits of a word.
use Rattle.std.specs.{Prelude.{◌≡◌, ℕ, ◌+◌, ◌-◌, ◌*◌, ◌%◌, ◌^◌, ◌<◌, ◌≤◌}, Int.bit_at}
use Rattle.arachne_exec.specs.declared.turns.Unsearched.{Unsearched}

-- the distance from `from` up to `index`, round a word
abbrev pub distance : ℕ → ℕ → ℕ
distance from index = (index + 64 - from % 64) % 64

-- of the set bits, it is the first from that index on, round the word
pub record IsFirstFrom (word from index : ℕ) : Type 0 where
  pub low : index < 64
  pub there : bit_at word index ≡ 1
  pub nearest : (other : ℕ) → other < 64 → distance from other < distance from index → bit_at word other ≡ 0

-- a block with a greater index must still be searched, before the search starts again from index 0
abbrev pub HasMoreBehind : Unsearched → ℕ → Type 0
HasMoreBehind left index = (left.from ≤ index) × (2 * 2 ^ index ≤ left.blocks)
