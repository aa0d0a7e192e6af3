-- A seat at locks that was split.
use Rattle.std.proofs.Common.{◌≡◌, true, subst, sym, refl}
use Rattle.std.proofs.lemmas.Bool.{false≢true}
use Rattle.std.proofs.lemmas.Option.{none-some}
use Rattle.std.specs.Option.{is_some}
use Rattle.std.specs.declared.option.Option.{Option}
use Rattle.std.specs.declared.option.Option.TheVariants.{None, Some}
use Rattle.arachne_exec_c.specs.Seating.{Seating, first_of, second_of, IsSplit}

-- it was split, where the first handle held it and the second nothing
pub is_split : (old other new other_new : Option Seating) → is_some old ≡ true → other ≡ None
    → ((a : Seating) → old ≡ Some a → (new ≡ Some (first_of a)) × (other_new ≡ Some (second_of a))) → IsSplit old other new other_new 0
is_split None other new other_new some none made = absurd (false≢true some)
is_split (Some a) (Some b) new other_new some none made = absurd (none-some b (sym none))
is_split (Some a) None new other_new some none made = subst (λ (o : Option Seating). IsSplit (Some a) None new o 0) (sym (made a refl).1) (refl, (made a refl).0, refl)
