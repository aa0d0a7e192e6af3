-- The end of a thread below the last generation.
use Rattle.std.proofs.Common.{◌≡◌, ℕ, ◌+◌, ◌<◌, Bool, true, false, cond, ltb, ◌&&◌, ◌∷◌, refl, sym, ap, ◌∙◌, subst, arith, set, []}
use Rattle.std.{proofs.lemmas.Bool.{cond-true, lt-ltb}, specs.declared.option.Option.TheVariants.None}
use mathlib.Core.Option as opt
use lib.ListN.{get_elem?}
use Rattle.arachne_core.specs.declared.{place.Place.Place, state.State.State}
use Rattle.arachne_core.specs.{declared.state.State.TheVariants.{Claimed, Held, Spent}, Marked.{Marked, mark_word}}
use Rattle.arachne_core.specs.World.{World, Thread, IsContext, IsPlace, IsHeldBy, core_of, id_of, with_at, tag_of, Allowed, after}
use Rattle.arachne_core.{specs.ContextTable.{mark_of, is_live_state}, proofs.Changes.{with_at-same, with_at-other}}
use Rattle.arachne_core.proofs.KeepsOwnedOnce.{keeps_owned_once}
use Rattle.arachne_core.specs.declared.event.Event.TheVariants as event
use Rattle.arachne_core.specs.declared.mark.Mark.TheVariants as mark
use Rattle.arachne_weights.specs.Tokens.{held}
use Rattle.arachne_rule.specs.{declared.view.{Carried.Carried, Known.Known}, Views.carried_at}
use Rattle.arachne_rule.specs.Rule.{settled, Coherent, carried_if, carried_of, HasValue, Board, Phase, Shows}
use Rattle.arachne_rule.{specs.Changes.{claimed_again, retired, marked_free}, proofs.Shares.my-share}
use Rattle.arachne_rule.proofs.{Carrying.{with-at, with-else}, Views.{given-same, ended-more}}
use Rattle.arachne_rule.proofs.Marking.{Small, marking, held-carried, mine-claimed, not-claimed, not-held}

module _ {T : Type 0} (tag_in : T → ℕ) (bits : ℕ) (w : World) (d : ℕ → Phase) (b : Board T) (s : Shows tag_in bits w d b)
    (h weight : ℕ) (k : Known) (mine : get_elem? b.views h ≡ opt.some (held weight k)) where
  abbrev pub after_retire : ℕ → Marked → Known → Board T
  after_retire x n k' = record b {
    mark = with_at b.mark x (mark_word bits n);
    home = with_at b.home x (opt.some (opt.some None));
    views = set b.views h (held weight k');
  }

  -- the context is claimed again, in its next generation
  pub retire : (x : ℕ) (g : Carried) → IsContext w x → carried_at x k.carried ≡ g ∷ [] → g.context ≡ x → g.held ≡ true → g.named ≡ true → g.generation < w.last
      → Allowed w (event.Retire h x)
      × Shows tag_in bits (after w (event.Retire h x)) (with_at d x (settled g.place))
      (after_retire x (marked_free (claimed_again g)) (retired k g))
  retire x g x_in got same holds named below =
      let is = held-carried (w.state x) h (carried_of w d x) g (λ q t. refl) (my-share tag_in bits w d b s h weight k mine x g x_in got) holds in
      let woken : Bool = is.0 in
      let tag : ℕ = is.1 in
      let was : w.state x ≡ Held h woken tag = is.2 in
      let place : g.place ≡ w.at x = ap (λ (r : Carried). r.place) is.3 in
      let gen : g.generation ≡ w.generation x = ap (λ (r : Carried). r.generation) is.3 in
      let less : ltb (w.generation x) w.last ≡ true = lt-ltb (w.generation x) w.last (omega (arith, gen, below)) in
      let old = s.contexts x x_in in
      let may : Allowed w (event.Retire h x) = record { context = x_in; held = subst (IsHeldBy h) (sym was) refl } in
      let v : World = after w (event.Retire h x) in
      let c : Small = record { state = v.state; generation = v.generation; given = v.given; ended = v.ended } in
      let now : v.state x ≡ Claimed h = with_at-same w.state x (cond (ltb (w.generation x) w.last) (Claimed h) Spent) ∙ cond-true (ltb (w.generation x) w.last) (Claimed h) Spent less in
      let gen' : v.generation x ≡ g.generation + 1 = with_at-same w.generation x (cond (ltb (w.generation x) w.last) (w.generation x + 1) (w.generation x)) ∙ cond-true (ltb (w.generation x) w.last) (w.generation x + 1) (w.generation x) less ∙ ap (λ (n : ℕ). n + 1) (sym gen) in
      let e : ℕ → Phase = with_at d x (settled g.place) in
      let phase : e x ≡ settled g.place = with_at-same d x (settled g.place) in
      let g' : Carried = claimed_again g in
      let k' : Known = retired k g in
      let n : Marked = record { mark = mark.Free; alone = false; place = g.place; generation = g.generation + 1 } in
      let a : Board T = after_retire x n k' in
      let g_is : g' ≡ carried_of v e x false 0 = λ i. record {
        context = same i;
        place = place i;
        shown = sym (ap (λ (u : Phase). u.shown) phase) i;
        generation = sym gen' i;
        held = false;
        tag = 0;
        alone = (is.3 i).alone;
        named = (named ∙ sym (ap (λ (u : Phase). u.named) phase)) i;
        away = sym (ap (λ (u : Phase). u.away) phase) i;
      } in
      let ended : Thread = (id_of w x, tag_of (w.state x)) in
      let tag_is : g.tag ≡ tag_of (w.state x) = ap (λ (r : Carried). r.tag) is.3 ∙ ap tag_of (sym was) in (
        may,
        marking tag_in bits w c d e b a x h weight k k' s x_in
            (record {
              mine = mine;
              views = refl;
              occ = λ j _. refl;
              mark = λ y _ m. with_at-other b.mark x (mark_word bits n) y m;
              home = λ y _ m. with_at-other b.home x (opt.some (opt.some None)) y m;
              name = λ p _ m. refl;
              phase = λ y m. with_at-other d x (settled g.place) y m;
              carried = λ y m. with-else g' x y k.carried same m;
              state = λ y m. with_at-other w.state x _ y m;
              generation = λ y m. with_at-other w.generation x _ y m;
            })
            (keeps_owned_once w (event.Retire h x) s.owned may)
            (record {
              within = subst (λ (p : Place). IsPlace w p) (sym (ap (λ (r : Phase). r.shown) phase ∙ place)) (s.owned.placed x x_in);
              coherent = subst (λ (t : State). Coherent t (w.at x) (e x)) (sym now) (λ _. ap (λ (r : Phase). r.shown) phase ∙ place);
              mark = with_at-same b.mark x (mark_word bits n) ∙ sym (ap (mark_word bits) (λ i. record { mark = mark_of (now i); alone = is_live_state (now i) && w.alone (core_of w x); place = (phase i).shown; generation = gen' i }));
              named = λ _. old.named (sym (ap (λ (r : Carried). r.named) is.3) ∙ named);
              value = λ _. subst (λ (t : State). HasValue tag_in t (a.home x)) (sym now) (with_at-same b.home x (opt.some (opt.some None)));
            })
            (s.names (w.at x) (s.owned.placed x x_in))
            (with-at g' x k.carried same ∙ ap (λ (r : Carried). r ∷ []) g_is ∙ sym (ap (λ (t : State). carried_if t h (carried_of v e x)) now ∙ mine-claimed h (carried_of v e x)))
            (λ j m. ap (λ (t : State). carried_if t j (carried_of w d x)) was ∙ not-held h woken tag j (carried_of w d x) m ∙ sym (ap (λ (t : State). carried_if t j (carried_of v e x)) now ∙ not-claimed h j (carried_of v e x) m))
            (λ t. s.given t ∙ given-same b.views h weight k k' mine refl t)
            (ended-more b.views h weight k k' mine w.ended ended s.ended (λ i. (record { context = same i; generation = gen i }, tag_is i) ∷ k.ended)),
      )
