-- The models of a cell, of its sending end and of a receipt, and what a seat knows.
use Rattle.std.specs.Prelude.{Option, None, List, [], ◌∷◌}
use Rattle.atomic_table.specs.Seated.{TableId}
use Rattle.arachne_join.specs.declared.{state.CellState.TheVariants.Empty, view.Role.Role}
use Rattle.arachne_join.specs.declared.view.{Role.TheVariants.{Saw, Never}, View.View}

-- a cell: the identity of its table, and the key for which it was made
pub record Cell (K : Type 0) : Type 0 where
  pub table : TableId
  pub key : K

-- a receipt: the cell's table, and what was done or seen there
pub record Shown : Type 0 where
  pub table : TableId
  pub role : Role

abbrev pub shown : TableId → Role → Shown
shown table role = record { table = table; role = role }

module _ {K : Type 0} where
  abbrev pub view : Option K → Role → View K
  view key role = record { role = role; key = key }

  -- a seat that knows nothing
  abbrev pub blank : View K
  blank = view None (Saw Empty)

  -- the role of the one seat that a badge stands for
  abbrev pub role_of : List (View K) → Role
  role_of [] = Never
  role_of (v ∷ vs) = v.role
