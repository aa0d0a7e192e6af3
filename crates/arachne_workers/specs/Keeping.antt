-- The condition on which workers may keep slots claimed for threads that are forked later.
use Rattle.std.specs.Prelude.{◌≡◌, ◌≤◌, ◌⊎◌, ℕ, Bool, false}

-- no thread asks for a whole core, no order closes one, and no thread that holds a lock can be moved to another
abbrev pub MayKeepPlaces : Bool → ℕ → ℕ → ℕ → Type 0
MayKeepPlaces has_exclusive orders locks cores = (has_exclusive ≡ false) × (orders ≡ 0) × ((locks ≡ 0) ⊎ (cores ≤ 1))
