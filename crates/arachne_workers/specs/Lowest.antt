-- The lowest of the indexes for which a number has a bit.
use Rattle.std.specs.Prelude.{◌≡◌, ℕ, ◌<◌}
use Rattle.std.specs.Int.{bit_at}

pub record IsLowest (indexes index : ℕ) : Type 0 where
  pub member : bit_at indexes index ≡ 1
  pub lowest : (i : ℕ) → i < index → bit_at indexes i ≡ 0
