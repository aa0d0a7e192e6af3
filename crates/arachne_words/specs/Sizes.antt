-- The fields that the table's type keeps beside the table that it owns.
use Rattle.std.specs.Prelude.{◌≡◌, ℕ, ◌<◌, ◌≤◌}
use Rattle.arachne_core.specs.declared.{place.Place.Place, layout.TheConstants.{CORES, SLOTS, LAST_GENERATION}}
use Rattle.arachne_rule.specs.{declared.view.Shape.Shape, Layout.{Contexts, IsLaidOut}}

-- the place is one of the table's
abbrev pub IsPlaceIn : Shape → Place → Type 0
IsPlaceIn shape p = (p.core < shape.cores) × (p.index < shape.places_per_core)

-- the table is laid out for its shape, whose numbers fit the fields of the words
pub record IsSized (c : Contexts) (places_per_core last : ℕ) : Type 0 where
  pub laid_out : IsLaidOut c
  pub places_is : places_per_core ≡ c.shape.places_per_core
  pub last_is : last ≡ c.shape.last
  pub some_core : 0 < c.shape.cores
  pub cores_fit : c.shape.cores ≤ CORES
  pub places_fit : c.shape.places_per_core ≤ SLOTS
  pub last_fit : c.shape.last ≡ LAST_GENERATION
