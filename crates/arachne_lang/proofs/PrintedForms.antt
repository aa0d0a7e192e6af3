-- The sizes of the parts of a form.
use Rattle.std.proofs.Common.{ℕ, ◌+◌, List, [], ◌∷◌}

-- the sum of the sizes of these items
abbrev pub total : {X : Type 0} → (X → ℕ) → List X → ℕ
total size [] = 0
total size (item ∷ items) = size item + total size items
