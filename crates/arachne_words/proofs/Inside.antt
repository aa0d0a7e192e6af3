-- The indexes of a sized table's words are below their number.
use Rattle.std.proofs.Common.{◌≡◌, ℕ, ◌<◌, arith}
use Rattle.arachne_core.specs.declared.place.Place.{Place}
use Rattle.arachne_rule.specs.Layout.{Contexts, occ_index, name_index}
use Rattle.arachne_words.specs.Sizes.{IsSized, IsPlaceIn}

module _ (c : Contexts) (slots last : ℕ) (z : IsSized c slots last) where
  pub core-in : (core i : ℕ) → core < c.shape.cores → i ≡ occ_index c.table.slots core → i < c.table.words
  core-in core i inside there = omega (arith, inside, there, z.laid_out.words, z.laid_out.slots)

  pub name-in : (p : Place) (i : ℕ) → IsPlaceIn c.shape p → i ≡ name_index c.table.slots p → i < c.table.words
  name-in p i inside there = omega (arith, inside.0, inside.1, there, z.laid_out.words, z.laid_out.slots, z.laid_out.few.2)

  pub mark-in : (x : ℕ) → x < c.table.slots → x < c.table.words
  mark-in x inside = omega (arith, inside, z.laid_out.words, z.laid_out.slots)
