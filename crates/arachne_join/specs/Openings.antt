-- The models of a cell of a block between its uses, and of the two ends of an opening.
use Rattle.std.specs.Prelude.{◌≡◌, ℕ, ◌+◌, ◌<◌}
use Rattle.atomic_table.specs.Seated.{TableId}
use Rattle.arachne_join.specs.Parts.{word_after}

-- a cell: its block's table, its index there, and the number of values that have passed through it
pub record BlockCell : Type 0 where
  pub table : TableId
  pub index : ℕ
  pub passed : ℕ

-- one use of a cell, for one value: the cell before it, and the key of the value
pub record Opening (K : Type 0) : Type 0 where
  pub cell : BlockCell
  pub key : K

abbrev pub opening : {K : Type 0} → BlockCell → K → Opening K
opening cell key = record { cell = cell; key = key }

-- the opening for which a receiver waits, and how many times it looked and found no value
pub record Awaited (K : Type 0) : Type 0 where
  pub opening : Opening K
  pub misses : ℕ

abbrev pub awaited : {K : Type 0} → Opening K → Awaited K
awaited opening = record { opening = opening; misses = 0 }

abbrev pub missed_again : {K : Type 0} → Awaited K → Awaited K
missed_again a = record { opening = a.opening; misses = a.misses + 1 }

-- the cell after one more value has passed through it
abbrev pub used_once_more : BlockCell → BlockCell
used_once_more cell = record { table = cell.table; index = cell.index; passed = cell.passed + 1 }

-- the seat belongs to the block's table, the index is one of its cells, and `full` is the word after one more value
pub record IsPlaced (block seat : TableId) (index full passed : ℕ) : Type 0 where
  pub own : seat ≡ block
  pub inside : index < block.slots
  pub word : full ≡ word_after (passed + 1)
