-- A take.
use Rattle.std.proofs.Common.{◌≡◌, ℕ, Bool, true, false, ◌&&◌, ◌∷◌, refl, sym, ap, ◌∙◌, subst, set, [], true≢false}
use mathlib.Core.Option as opt
use lib.ListN.{get_elem?}
use Rattle.std.specs.declared.option.Option.TheVariants.{Some}
use Rattle.arachne_core.specs.declared.{place.Place.Place, state.State.State, state.State.TheVariants.{Ready, Held}}
use Rattle.arachne_core.specs.declared.event.Event.TheVariants as event
use Rattle.arachne_core.specs.declared.mark.Mark.TheVariants as mark
use Rattle.arachne_core.specs.Marked.{Marked, mark_word, marked_of}
use Rattle.arachne_core.specs.World.{World, IsContext, IsPlace, IsReady, core_of, with_at, taken, Allowed, after}
use Rattle.arachne_core.specs.ContextTable.{mark_of, is_live_state, marked}
use Rattle.arachne_core.proofs.{Changes.{with_at-same, with_at-other}, KeepsOwnedOnce.keeps_owned_once}
use Rattle.arachne_weights.specs.Tokens.{held}
use Rattle.arachne_rule.specs.{declared.view.Carried.Carried, declared.view.Known.Known, Views.with_context}
use Rattle.arachne_rule.specs.Rule.{Coherent, carried_if, carried_of, HasValue, Board, Phase, Shows}
use Rattle.arachne_rule.specs.Changes.{taken_context, taken_phase}
use Rattle.arachne_rule.proofs.{Carrying.{with-at, with-else}, Views.{given-same, ended-same}}
use Rattle.arachne_rule.proofs.{Marking.{Small, small, marking, mine-held, not-held}, Seen.{seen, ready-mark}}

ready-carried : (s : State) (t : ℕ) → s ≡ Ready t → (h : ℕ) (f : Bool → ℕ → Carried) → carried_if s h f ≡ []
ready-carried s t e h f = ap (λ (r : State). carried_if r h f) e

module _ {T : Type 0} (tag_in : T → ℕ) (bits : ℕ) (w : World) (d : ℕ → Phase) (b : Board T) (s : Shows tag_in bits w d b)
    (h weight : ℕ) (k : Known) (mine : get_elem? b.views h ≡ opt.some (held weight k)) where
  abbrev pub after_take : ℕ → Marked → ℕ → Board T
  after_take x m tag = record b {
    mark = with_at b.mark x (mark_word bits (record m { mark = mark.Held }));
    home = with_at b.home x (opt.some opt.none);
    views = set b.views h (held weight (with_context k (taken_context x m tag)));
  }

  -- the value is at home, and the seat has the thread from then on
  pub take : (x : ℕ) (m : Marked) → IsContext w x → marked_of bits (b.mark x) ≡ m → m.mark ≡ mark.Ready
      → (v : T) × (b.home x ≡ opt.some (opt.some (Some v))) × Allowed w (event.Take h x)
      × Shows tag_in bits (after w (event.Take h x)) (with_at d x (taken_phase m.place)) (after_take x m (tag_in v))
  take x m x_in read is_ready =
      let x_is : m ≡ record (marked w x) { place = (d x).shown } = sym read ∙ seen tag_in bits w d b s x x_in in
      let r = ready-mark (w.state x) (sym (ap (λ (u : Marked). u.mark) x_is) ∙ is_ready) in
      let tag : ℕ = r.0 in
      let ready : w.state x ≡ Ready tag = r.1 in
      let old = s.contexts x x_in in
      let rest : Coherent (Ready tag) (w.at x) (d x) = subst (λ (t : State). Coherent t (w.at x) (d x)) ready old.coherent in
      let value : HasValue tag_in (Ready tag) (b.home x) = subst (λ (t : State). HasValue tag_in t (b.home x)) ready (old.value rest.0) in
      let v : T = value.0 in
      let place : m.place ≡ w.at x = ap (λ (u : Marked). u.place) x_is ∙ rest.1 in
      let alone : m.alone ≡ w.alone (core_of w x) = ap (λ (u : Marked). u.alone) x_is ∙ ap (λ (t : State). is_live_state t && w.alone (core_of w x)) ready in
      let may : Allowed w (event.Take h x) = record { context = x_in; ready = subst IsReady (sym ready) tt } in
      let c : Small = record { state = with_at w.state x (taken h (w.state x)); generation = w.generation; given = w.given; ended = w.ended } in
      let now : c.state x ≡ Held h false (tag_in v) = with_at-same w.state x (taken h (w.state x)) ∙ ap (taken h) ready ∙ ap (Held h false) (sym value.2) in
      let e : ℕ → Phase = with_at d x (taken_phase m.place) in
      let phase : e x ≡ taken_phase m.place = with_at-same d x (taken_phase m.place) in
      let a : Board T = after_take x m (tag_in v) in
      let g : Carried = taken_context x m (tag_in v) in
      let g_is : g ≡ carried_of (small w c) e x true (tag_in v) = λ i. record {
        context = x;
        place = place i;
        shown = sym (ap (λ (u : Phase). u.shown) phase) i;
        generation = (x_is i).generation;
        held = true;
        tag = tag_in v;
        alone = alone i;
        named = sym (ap (λ (u : Phase). u.named) phase) i;
        away = sym (ap (λ (u : Phase). u.away) phase) i;
      } in
      let al : (is_live_state (c.state x) && w.alone (core_of w x)) ≡ m.alone = ap (λ (t : State). is_live_state t && w.alone (core_of w x)) now ∙ sym alone in (
        v,
        value.1,
        may,
        marking tag_in bits w c d e b a x h weight k (with_context k g) s x_in
            (record {
              mine = mine;
              views = refl;
              occ = λ j _. refl;
              mark = λ y _ n. with_at-other b.mark x (mark_word bits (record m { mark = mark.Held })) y n;
              home = λ y _ n. with_at-other b.home x (opt.some opt.none) y n;
              name = λ p _ n. refl;
              phase = λ y n. with_at-other d x (taken_phase m.place) y n;
              carried = λ y n. with-else g x y k.carried refl n;
              state = λ y n. with_at-other w.state x (taken h (w.state x)) y n;
              generation = λ y n. refl;
            })
            (keeps_owned_once w (event.Take h x) s.owned may)
            (record {
              within = subst (λ (p : Place). IsPlace w p) (sym (ap (λ (r : Phase). r.shown) phase ∙ place)) (s.owned.placed x x_in);
              coherent = subst (λ (t : State). Coherent t (w.at x) (e x)) (sym now) (ap (λ (r : Phase). r.shown) phase ∙ place);
              mark = with_at-same b.mark x (mark_word bits (record m { mark = mark.Held })) ∙ sym (ap (mark_word bits) (λ i. record { mark = mark_of (now i); alone = al i; place = (phase i).shown; generation = (sym x_is i).generation }));
              named = λ f. absurd (true≢false (sym f ∙ ap (λ (u : Phase). u.named) phase));
              value = λ f. absurd (true≢false (ap (λ (u : Phase). u.away) (sym phase) ∙ f));
            })
            (s.names (w.at x) (s.owned.placed x x_in))
            (with-at g x k.carried refl ∙ ap (λ (r : Carried). r ∷ []) g_is ∙ sym (ap (λ (t : State). carried_if t h (carried_of (small w c) e x)) now ∙ mine-held h false (tag_in v) (carried_of (small w c) e x)))
            (λ j n. ready-carried (w.state x) tag ready j (carried_of w d x) ∙ sym (ap (λ (t : State). carried_if t j (carried_of (small w c) e x)) now ∙ not-held h false (tag_in v) j (carried_of (small w c) e x) n))
            (λ t. s.given t ∙ given-same b.views h weight k (with_context k g) mine refl t)
            (λ t. s.ended t ∙ ended-same b.views h weight k (with_context k g) mine refl t),
      )
