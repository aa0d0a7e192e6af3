-- A seat that a call leaves at its table, with its weight and with what is out.
use Rattle.std.specs.Prelude.{◌≡◌, ℕ, List}
use Rattle.arachne_contexts.specs.Out.{Out, KeepsOut}

-- the seat sits at the table, its weight is the same, and what was out with it still is
abbrev pub IsKept : {Table Seat C H : Type 0} → (Table → Seat → Type 0) → (Seat → ℕ) → (Table → Seat → List (Out C H) → Type 0) → Table → Seat → Seat → Type 0
IsKept sits weight has table old new = sits table new × (weight new ≡ weight old) × KeepsOut (has table) old new
