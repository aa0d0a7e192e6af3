-- The table to which the rule applies, at the end.
use Rattle.std.specs.Prelude.{◌≡◌, ℕ}
use mathlib.Core.Option.{some}
use lib.ListN.{get_elem?}
use Rattle.arachne_core.specs.declared.layout.TheConstants.{CORE_BITS}
use Rattle.arachne_weights.specs.{Tokens.held, Weight.whole}
use Rattle.arachne_rule.specs.{declared.view.{Known.Known, Shape.Shape}, Table.{Table, Holds}}

-- the rule allows a table of that shape in which the seat with the whole weight knows k
pub record IsLawfulEnd {T : Type 0} (tag_in : T → ℕ) (shape : Shape) (k : Known) : Type 0 where
  pub table : Table T
  pub lawful : Holds tag_in CORE_BITS shape table
  pub seat : ℕ
  pub there : get_elem? table.views seat ≡ some (held whole k)
