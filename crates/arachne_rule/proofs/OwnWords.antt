-- The meaning of the words for the seat that carries a context, or that has ended a thread.
use Rattle.std.proofs.Common.{◌≡◌, ℕ, zero, suc, ◌<◌, ◌≤◌, Bool, true, false, ◌&&◌, List, [], ◌∷◌, refl, sym, ap, ◌∙◌, subst, arith, inl, inr, count_by}
use Rattle.std.{specs.{List.sum_by, declared.option.Option.TheVariants.None}, proofs.lemmas.List.Sums.sum_by-cons}
use mathlib.Core.Option as opt
use lib.ListN.{get_elem?}
use Rattle.arachne_core.specs.{ContextTable.{mark_of, is_live_state}, Marked.{Marked, marked_of}}
use Rattle.arachne_core.specs.World.{World, Thread, IsReady, CanBeWoken, Allowed, IsContext, IsPlace, core_of, same_thread}
use Rattle.arachne_core.specs.declared.state.State.{State, TheVariants.{Free, Ready, Held, Spent}}
use Rattle.arachne_core.specs.declared.mark.Mark.TheVariants as mark
use Rattle.arachne_core.specs.declared.event.Event.TheVariants as event
use Rattle.arachne_weights.specs.{declared.token.Token.Token, Tokens.held}
use Rattle.arachne_rule.specs.{declared.view.{Carried.Carried, Known.Known}, Views.carried_at}
use Rattle.arachne_rule.{specs.Rule.{carried_if, carried_of, share_of, Board, Phase, Shows}, proofs.Shares.my-share}
use Rattle.arachne_rule.{specs.Plays.{Carries, IsHeldMark, SaysCarried, IsGone, HasEnded}, proofs.Carrying.known-there}
use Rattle.arachne_rule.proofs.{Marking.{one-carried, claimed-carried, held-carried}, Seen.seen}
use Rattle.arachne_rule.proofs.{Slots.{carried-says, carried-empty, one-claim}, Gone.{ended-is-gone, not-live}}

not-woken-spent : (s : State) → s ≡ Spent → CanBeWoken s → ⊥
not-woken-spent s e c = subst CanBeWoken e c

pub ready-nobody : (s : State) → IsReady s → (h : ℕ) (f : Bool → ℕ → Carried) → carried_if s h f ≡ []
ready-nobody (Ready t) r h f = refl
ready-nobody s r h f = absurd r

pub free-nobody : (s : State) → s ≡ Free → (h : ℕ) (f : Bool → ℕ → Carried) → carried_if s h f ≡ []
free-nobody s e h f = ap (λ (t : State). carried_if t h f) e

pub same-carried : (k : Known) (c f : Carried) → Carries k c → Carries k f → c.context ≡ f.context → c ≡ f
same-carried k c f has also same = one-carried c f (sym has ∙ ap (λ (x : ℕ). carried_at x k.carried) same ∙ also)

held-says : (h : ℕ) (woken : Bool) (tag : ℕ) → IsHeldMark (mark_of (Held h woken tag))
held-says h true tag = tt
held-says h false tag = tt

spent-says : (s : State) → s ≡ Spent → mark_of s ≡ mark.Spent
spent-says s e = ap mark_of e

-- one seat's part of a total
part-of : (f : Token Known → ℕ) (vs : List (Token Known)) (h : ℕ) (v : Token Known) → get_elem? vs h ≡ opt.some v → f v ≤ sum_by f vs
part-of f [] h v e = absurd (opt.some-ne-none v (sym e))
part-of f (u ∷ us) zero v e = let all = sum_by-cons f u us in let same = ap f (opt.some-injective u v e) in omega arith
part-of f (u ∷ us) (suc h) v e = let all = sum_by-cons f u us in let r = part-of f us h v e in omega arith

module _ {T : Type 0} (tag_in : T → ℕ) (bits : ℕ) (w : World) (d : ℕ → Phase) (b : Board T) (s : Shows tag_in bits w d b)
    (h weight : ℕ) (k : Known) (mine : get_elem? b.views h ≡ opt.some (held weight k)) where
  -- a context that no seat carries isn't the seat's
  pub not-mine : (x : ℕ) → IsContext w x → ((f : Bool → ℕ → Carried) → carried_if (w.state x) h f ≡ []) → carried_at x k.carried ≡ []
  not-mine x x_in nobody = sym (ap (λ (r : Known). carried_at x r.carried) (known-there b.views h (held weight k) mine)) ∙ s.carried h x x_in ∙ nobody (carried_of w d x)

  -- the context's place is one of the World, and if it is named there, the place word names it
  pub placed-in : (c : Carried) → IsContext w c.context → Carries k c → IsPlace w c.place × (c.named ≡ true → b.name c.place ≡ c.context)
  placed-in c c_in has =
      let share = my-share tag_in bits w d b s h weight k mine c.context c c_in has in
      let f : Bool → ℕ → Carried = carried_of w d c.context in
      let at : c.place ≡ w.at c.context = carried-says (w.state c.context) h f (λ (u : Carried). u.place) c (w.at c.context) share (λ q t. refl) in
      let named : c.named ≡ (d c.context).named = carried-says (w.state c.context) h f (λ (u : Carried). u.named) c (d c.context).named share (λ q t. refl) in
      (subst (IsPlace w) (sym at) (s.owned.placed c.context c_in), λ e. ap b.name at ∙ (s.contexts c.context c_in).named (sym named ∙ e))

  pub same-at-place : (c f : Carried) → IsContext w c.context → IsContext w f.context → Carries k c → Carries k f → c.place ≡ f.place → c ≡ f
  same-at-place c f c_in f_in has also same =
      same-carried k c f has also (one-claim tag_in bits w d b s h weight k mine c.context f.context c f c_in f_in has also same)

  -- its slot is at home and empty, unless it is out
  pub home-empty : (c : Carried) → IsContext w c.context → Carries k c → c.away ≡ false → b.home c.context ≡ opt.some (opt.some None)
  home-empty c c_in has home =
      let share = my-share tag_in bits w d b s h weight k mine c.context c c_in has in
      let f : Bool → ℕ → Carried = carried_of w d c.context in
      let away : c.away ≡ (d c.context).away = carried-says (w.state c.context) h f (λ (u : Carried). u.away) c (d c.context).away share (λ q t. refl) in
      carried-empty tag_in (w.state c.context) h f c (b.home c.context) share ((s.contexts c.context c_in).value (sym away ∙ home))

  pub says-carried : (x : ℕ) (c : Carried) → IsContext w x → c.context ≡ x → Carries k c → SaysCarried bits c (b.mark x)
  says-carried x c x_in same has =
      let share : share_of w d h x ≡ c ∷ [] = my-share tag_in bits w d b s h weight k mine x c x_in (ap (λ (y : ℕ). carried_at y k.carried) (sym same) ∙ has) in
      let reads = seen tag_in bits w d b s x x_in in (
        (λ free. let is = claimed-carried (w.state x) h (carried_of w d x) c (λ q t. refl) share free in
            reads ∙ (λ i. record { mark = mark_of (is.0 i); alone = is_live_state (is.0 i) && w.alone (core_of w x); place = (sym is.1 i).shown; generation = (sym is.1 i).generation })),
        (λ holds. let is = held-carried (w.state x) h (carried_of w d x) c (λ q t. refl) share holds in (
          subst IsHeldMark (sym (ap (λ (u : Marked). u.mark) reads ∙ ap mark_of is.2)) (held-says h is.0 is.1),
          (λ i. record {
            mark = (marked_of bits (b.mark x)).mark;
            alone = (ap (λ (u : Marked). u.alone) reads ∙ ap (λ (t : State). is_live_state t && w.alone (core_of w x)) is.2 ∙ ap (λ (u : Carried). u.alone) (sym is.3)) i;
            place = (ap (λ (u : Marked). u.place) reads ∙ ap (λ (u : Carried). u.shown) (sym is.3)) i;
            generation = (ap (λ (u : Marked). u.generation) reads ∙ ap (λ (u : Carried). u.generation) (sym is.3)) i;
          }),
        )),
      )

  pub says-gone : (x : ℕ) (t : Thread) → IsContext w x → t.0.context ≡ x → HasEnded k t → IsGone bits t.0 (b.mark x)
  says-gone x t x_in same has =
      let reads = seen tag_in bits w d b s x x_in in
      let ended : 0 < w.ended t = omega (arith, has, s.ended t, part-of (λ (v : Token Known). count_by (same_thread t) v.known.ended) b.views h (held weight k) mine) in
      elim (ended-is-gone w t s.owned ended) [
        | inl l ↦ inl (λ e. omega (arith, l, ap w.generation same, ap (λ (u : Marked). u.generation) reads, e))
        | inr p ↦ inr (inr (ap (λ (u : Marked). u.mark) reads ∙ spent-says (w.state x) (ap w.state (sym same) ∙ p)))
      ]

  -- a thread that has ended was posted, so its context is one of the World's; and it can't be woken
  pub ended-for-good : (t : Thread) → HasEnded k t → IsContext w t.0.context × IsGone bits t.0 (b.mark t.0.context) × (Allowed w (event.Wake t.0) → ⊥)
  ended-for-good t has =
      let ended : 0 < w.ended t = omega (arith, has, s.ended t, part-of (λ (v : Token Known). count_by (same_thread t) v.known.ended) b.views h (held weight k) mine) in
      let x_in : IsContext w t.0.context = (s.owned.generations t (not-live w t s.owned ended).0).0 in (
        x_in,
        says-gone t.0.context t x_in refl has,
        λ may. elim (ended-is-gone w t s.owned ended) [
          | inl l ↦ omega (arith, l, may.generation)
          | inr p ↦ not-woken-spent (w.state t.0.context) p may.waits
        ],
      )
