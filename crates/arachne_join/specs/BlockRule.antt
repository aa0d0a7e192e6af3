-- The invariant of a block of cells between any two steps.
use Rattle.std.specs.Prelude.{◌≡◌, ◌≢◌, ℕ, length}
use mathlib.Core.Option.{some}
use lib.ListN.{get_elem?}
use Rattle.atomic_table.specs.Table as table
use Rattle.arachne_join.specs.declared.part.{Content.Content, Part.TheVariants.Rest, PartView.PartView}
use Rattle.arachne_join.specs.Parts.{part_view, AreApart, Knows}

module _ {T K : Type 0} (fits : K → T → Type 0) where
  -- each cell has a word and a slot, no two seats have the same right, and each seat's record is true
  pub record IsShared (s : table.State (Content T K) (PartView K)) : Type 0 where
    pub sized : length s.words ≡ length s.homes
    pub apart : (a b : ℕ) (v w : PartView K) → get_elem? s.views a ≡ some v → get_elem? s.views b ≡ some w → a ≢ b → AreApart v w
    pub known : (a : ℕ) (v : PartView K) → get_elem? s.views a ≡ some v → Knows fits s.words s.homes v.index v.passed v.part

-- the first seat has all cells
abbrev pub all_cells : {K : Type 0} → PartView K
all_cells = part_view Rest 0 0
