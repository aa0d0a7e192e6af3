-- No context and no place belongs to two seats.
use Rattle.std.proofs.{Common.{◌≡◌, ℕ, [], ◌∷◌, sym, ap, ◌∙◌, inl, inr, refl}, lemmas.Bool.cases_eq}
use mathlib.Core.Option.{some}
use lib.ListN.{get_elem?}
use Rattle.arachne_core.specs.World.{World, IsContext}
use Rattle.arachne_weights.specs.Tokens.{held}
use Rattle.arachne_rule.specs.{declared.view.Carried.Carried, declared.view.Known.Known, Views.carried_at}
use Rattle.arachne_rule.specs.{Rule.{carried_of, Board, Phase, Shows}, Plays.Carries}
use Rattle.arachne_rule.proofs.{Shares.my-share, Slots.{carried-says, carried-alone}}

module _ {T : Type 0} (tag_in : T → ℕ) (bits : ℕ) (w : World) (d : ℕ → Phase) (b : Board T) (s : Shows tag_in bits w d b)
    (h weight : ℕ) (k : Known) (mine : get_elem? b.views h ≡ some (held weight k))
    (j added : ℕ) (o : Known) (theirs : get_elem? b.views j ≡ some (held added o)) where
  one-carrier : (x : ℕ) (c f : Carried) → IsContext w x → carried_at x k.carried ≡ c ∷ [] → carried_at x o.carried ≡ f ∷ [] → h ≡ j
  one-carrier x c f x_in got also = elim (cases_eq h j) [
    | inl e ↦ e
    | inr n ↦
        let first = my-share tag_in bits w d b s h weight k mine x c x_in got in
        let second = my-share tag_in bits w d b s j added o theirs x f x_in also in
        let none = carried-alone (w.state x) j h (carried_of w d x) (carried_of w d x) f second n in
        cc (sym first ∙ none)
  ]

  -- what two seats carry at one place is one context, and they are one seat
  pub one-at-a-place : (c f : Carried) → IsContext w c.context → IsContext w f.context → Carries k c → Carries o f → c.place ≡ f.place → (c.context ≡ f.context) × (h ≡ j)
  one-at-a-place c f c_in f_in has also same =
      let c_at = carried-says (w.state c.context) h (carried_of w d c.context) (λ (u : Carried). u.place) c (w.at c.context) (my-share tag_in bits w d b s h weight k mine c.context c c_in has) (λ q t. refl) in
      let f_at = carried-says (w.state f.context) j (carried_of w d f.context) (λ (u : Carried). u.place) f (w.at f.context) (my-share tag_in bits w d b s j added o theirs f.context f f_in also) (λ q t. refl) in
      let one : c.context ≡ f.context = s.owned.apart c.context f.context c_in f_in (sym c_at ∙ same ∙ f_at) in
      (one, one-carrier c.context c f c_in has (ap (λ (x : ℕ). carried_at x o.carried) one ∙ also))

  pub one-for-a-context : (c f : Carried) → IsContext w c.context → Carries k c → Carries o f → c.context ≡ f.context → h ≡ j
  one-for-a-context c f c_in has also same = one-carrier c.context c f c_in has (ap (λ (x : ℕ). carried_at x o.carried) same ∙ also)
