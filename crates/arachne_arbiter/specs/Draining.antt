-- The cores that must be drained: one flag for each core.
use Rattle.std.specs.Prelude.{◌≡◌, ℕ, true, false, Bool, List, All, length, slice_index_or}

-- the number of cores is the same, and each core that must be drained now had to be drained before
pub record WaitsForNoMore (old new : List Bool) : Type 0 where
  pub sized : length new ≡ length old
  pub fewer : (core : ℕ) → slice_index_or new core false ≡ true → slice_index_or old core false ≡ true

-- if it is settled, no core must be drained
abbrev pub IsSettled : Bool → List Bool → Type 0
IsSettled settled waiting = settled ≡ true → All (λ waits. waits ≡ false) waiting
