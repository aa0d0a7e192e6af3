-- A seat's knowledge of a context is its share of the World.
use Rattle.std.proofs.Common.{◌≡◌, ℕ, [], ◌∷◌, sym, ap, ◌∙◌}
use mathlib.Core.Option.{some}
use lib.ListN.{get_elem?}
use Rattle.arachne_core.specs.World.{World, IsContext}
use Rattle.arachne_weights.specs.Tokens.{held}
use Rattle.arachne_rule.specs.{declared.view.{Carried.Carried, Known.Known}, Views.carried_at}
use Rattle.arachne_rule.{specs.Rule.{share_of, Board, Phase, Shows}, proofs.Carrying.known-there}

module _ {T : Type 0} (tag_in : T → ℕ) (bits : ℕ) (w : World) (d : ℕ → Phase) (b : Board T) (s : Shows tag_in bits w d b)
    (h weight : ℕ) (k : Known) (mine : get_elem? b.views h ≡ some (held weight k)) where
  pub my-share : (x : ℕ) (c : Carried) → IsContext w x → carried_at x k.carried ≡ c ∷ [] → share_of w d h x ≡ c ∷ []
  my-share x c x_in got = sym (s.carried h x x_in) ∙ ap (λ (r : Known). carried_at x r.carried) (known-there b.views h (held weight k) mine) ∙ got
