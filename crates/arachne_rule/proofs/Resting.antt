-- A thread is put back.
use Rattle.std.proofs.Common.{◌≡◌, ℕ, Bool, true, false, ◌&&◌, ◌∷◌, refl, sym, ap, ◌∙◌, subst, set, []}
use Rattle.std.specs.declared.option.Option.TheVariants.{Some}
use mathlib.Core.Option as opt
use lib.ListN.{get_elem?}
use Rattle.arachne_core.proofs.{Changes.{with_at-same, with_at-other}, KeepsOwnedOnce.keeps_owned_once}
use Rattle.arachne_core.specs.{ContextTable.{mark_of, is_live_state}, Marked.{Marked, mark_word, marked_of}}
use Rattle.arachne_core.specs.World.{World, IsContext, IsPlace, IsHeldBy, core_of, with_at, put_back, Allowed, after}
use Rattle.arachne_core.specs.declared.{mark.Mark.Mark, place.Place.Place, state.{Rest.Rest, State.State}}
use Rattle.arachne_core.specs.declared.state.State.TheVariants.{Ready, Blocked, Held}
use Rattle.arachne_core.specs.declared.state.Rest.TheVariants as rest
use Rattle.arachne_core.specs.declared.event.Event.TheVariants as event
use Rattle.arachne_core.specs.declared.mark.Mark.TheVariants as mark
use Rattle.arachne_weights.specs.Tokens.{held}
use Rattle.arachne_rule.{specs.declared.view.{Carried.Carried, Known.Known}, proofs.{Shares.my-share, Seen.seen}}
use Rattle.arachne_rule.{specs.Views.{carried_at, without, without_context}, proofs.Carrying.{without-at, without-else}}
use Rattle.arachne_rule.specs.Rule.{Coherent, carried_if, carried_of, HasValue, Board, Phase, Shows}
use Rattle.arachne_rule.proofs.{Views.{given-same, ended-same}, Marking.{Small, small, marking, held-carried, not-held}}

-- a held context whose mark is HELD wasn't woken
not-woken : (h : ℕ) (q : Bool) (t : ℕ) → mark_of (Held h q t) ≡ mark.Held → q ≡ false
not-woken h true t e = absurd cc
not-woken h false t e = refl

module _ {T : Type 0} (tag_in : T → ℕ) (bits : ℕ) (w : World) (d : ℕ → Phase) (b : Board T) (s : Shows tag_in bits w d b)
    (h weight : ℕ) (k : Known) (mine : get_elem? b.views h ≡ opt.some (held weight k)) where
  -- a held context becomes one at rest, with its value at home
  rests : (x : ℕ) (g : Carried) (v : T) (r : Rest) (st : State) (mk : Mark) (al : Bool) → IsContext w x → carried_at x k.carried ≡ g ∷ [] → g.context ≡ x → (woken : Bool)
      → w.state x ≡ Held h woken g.tag → g ≡ carried_of w d x true g.tag
      → put_back r (Held h woken g.tag) ≡ st → mark_of st ≡ mk → is_live_state st ≡ true
      → ((j : ℕ) (f : Bool → ℕ → Carried) → carried_if st j f ≡ [])
      → ((p : Place) (a : Phase) → (a.away ≡ false) × (a.shown ≡ p) → Coherent st p a)
      → ((z : opt.Option (opt.Option _)) → z ≡ opt.some (opt.some (Some v)) → HasValue tag_in st z)
      → Allowed w (event.Rest h x r)
      × Shows tag_in bits (after w (event.Rest h x r)) (with_at d x (record (d x) { away = false })) (record b {
        mark = with_at b.mark x (mark_word bits (record { mark = mk; alone = g.alone; place = g.place; generation = g.generation }));
        home = with_at b.home x (opt.some (opt.some (Some v)));
        views = set b.views h (held weight (without_context k g));
      })
  rests x g v r st mk al x_in got same woken was g_is put marks live nobody coherent value =
      let place : g.place ≡ w.at x = ap (λ (u : Carried). u.place) g_is in
      let gen : g.generation ≡ w.generation x = ap (λ (u : Carried). u.generation) g_is in
      let alone : g.alone ≡ w.alone (core_of w x) = ap (λ (u : Carried). u.alone) g_is in
      let old = s.contexts x x_in in
      let shown : (d x).shown ≡ w.at x = subst (λ (t : State). Coherent t (w.at x) (d x)) was old.coherent in
      let may : Allowed w (event.Rest h x r) = record { context = x_in; held = subst (IsHeldBy h) (sym was) refl } in
      let q : World = after w (event.Rest h x r) in
      let c : Small = record { state = q.state; generation = w.generation; given = w.given; ended = w.ended } in
      let now : q.state x ≡ st = with_at-same w.state x (put_back r (w.state x)) ∙ ap (put_back r) was ∙ put in
      let ar : Phase = record (d x) { away = false } in
      let e : ℕ → Phase = with_at d x ar in
      let phase : e x ≡ ar = with_at-same d x ar in
      let n : Marked = record { mark = mk; alone = g.alone; place = g.place; generation = g.generation } in
      let k' : Known = without_context k g in
      let a : Board T = record b { mark = with_at b.mark x (mark_word bits n); home = with_at b.home x (opt.some (opt.some (Some v))); views = set b.views h (held weight k') } in
      let al' : (is_live_state (q.state x) && w.alone (core_of w x)) ≡ g.alone = ap (λ (t : State). is_live_state t && w.alone (core_of w x)) now ∙ ap (λ (t : Bool). t && w.alone (core_of w x)) live ∙ sym alone in
      let at_mark : mark_of (q.state x) ≡ mk = ap mark_of now ∙ marks in
      let at_place : (e x).shown ≡ g.place = ap (λ (u : Phase). u.shown) phase ∙ shown ∙ sym place in (
        may,
        marking tag_in bits w c d e b a x h weight k k' s x_in
            (record {
              mine = mine;
              views = refl;
              occ = λ j _. refl;
              mark = λ y _ m. with_at-other b.mark x (mark_word bits n) y m;
              home = λ y _ m. with_at-other b.home x (opt.some (opt.some (Some v))) y m;
              name = λ p _ m. refl;
              phase = λ y m. with_at-other d x ar y m;
              carried = λ y m. without-else g.context y k.carried (λ f. m (f ∙ same));
              state = λ y m. with_at-other w.state x (put_back r (w.state x)) y m;
              generation = λ y m. refl;
            })
            (keeps_owned_once w (event.Rest h x r) s.owned may)
            (record {
              within = subst (λ (u : Phase). IsPlace w u.shown) (sym phase) old.within;
              coherent = subst (λ (t : State). Coherent t (w.at x) (e x)) (sym now) (coherent (w.at x) (e x) (ap (λ (u : Phase). u.away) phase, ap (λ (u : Phase). u.shown) phase ∙ shown));
              mark = with_at-same b.mark x (mark_word bits n) ∙ sym (ap (mark_word bits) (λ i. record { mark = at_mark i; alone = al' i; place = at_place i; generation = sym gen i }));
              named = λ f. old.named (ap (λ (u : Phase). u.named) (sym phase) ∙ f);
              value = λ _. subst (λ (t : State). HasValue tag_in t (a.home x)) (sym now) (value (a.home x) (with_at-same b.home x (opt.some (opt.some (Some v)))));
            })
            (s.names (w.at x) (s.owned.placed x x_in))
            (ap (λ (y : ℕ). carried_at y (without g.context k.carried)) (sym same) ∙ without-at g.context k.carried ∙ sym (ap (λ (t : State). carried_if t h (carried_of (small w c) e x)) now ∙ nobody h (carried_of (small w c) e x)))
            (λ j m. ap (λ (t : State). carried_if t j (carried_of w d x)) was ∙ not-held h woken g.tag j (carried_of w d x) m ∙ sym (ap (λ (t : State). carried_if t j (carried_of (small w c) e x)) now ∙ nobody j (carried_of (small w c) e x)))
            (λ t. s.given t ∙ given-same b.views h weight k k' mine refl t)
            (λ t. s.ended t ∙ ended-same b.views h weight k k' mine refl t),
      )

  -- as ready
  pub rest_ready : (x : ℕ) (g : Carried) (v : T) → IsContext w x → carried_at x k.carried ≡ g ∷ [] → g.context ≡ x → g.held ≡ true → tag_in v ≡ g.tag
      → Allowed w (event.Rest h x rest.Ready)
      × Shows tag_in bits (after w (event.Rest h x rest.Ready)) (with_at d x (record (d x) { away = false })) (record b {
        mark = with_at b.mark x (mark_word bits (record { mark = mark.Ready; alone = g.alone; place = g.place; generation = g.generation }));
        home = with_at b.home x (opt.some (opt.some (Some v)));
        views = set b.views h (held weight (without_context k g));
      })
  rest_ready x g v x_in got same holds tagged =
      let is = held-carried (w.state x) h (carried_of w d x) g (λ q t. refl) (my-share tag_in bits w d b s h weight k mine x g x_in got) holds in
      let tag : is.1 ≡ g.tag = sym (ap (λ (u : Carried). u.tag) is.3) in
      rests x g v rest.Ready (Ready g.tag) mark.Ready g.alone x_in got same is.0 (is.2 ∙ ap (Held h is.0) tag) (is.3 ∙ ap (carried_of w d x true) tag) refl refl refl
      (λ j f. refl) (λ p a c. c) (λ z e. (v, e, tagged))

  -- as blocked, if the mark word is HELD
  pub rest_blocked : (x : ℕ) (g : Carried) (v : T) (m : Marked) → IsContext w x → carried_at x k.carried ≡ g ∷ [] → g.context ≡ x → g.held ≡ true → tag_in v ≡ g.tag
      → marked_of bits (b.mark x) ≡ m → m.mark ≡ mark.Held
      → Allowed w (event.Rest h x rest.Blocked)
      × Shows tag_in bits (after w (event.Rest h x rest.Blocked)) (with_at d x (record (d x) { away = false })) (record b {
        mark = with_at b.mark x (mark_word bits (record { mark = mark.Blocked; alone = g.alone; place = g.place; generation = g.generation }));
        home = with_at b.home x (opt.some (opt.some (Some v)));
        views = set b.views h (held weight (without_context k g));
      })
  rest_blocked x g v m x_in got same holds tagged read is_held =
      let is = held-carried (w.state x) h (carried_of w d x) g (λ q t. refl) (my-share tag_in bits w d b s h weight k mine x g x_in got) holds in
      let tag : is.1 ≡ g.tag = sym (ap (λ (u : Carried). u.tag) is.3) in
      let marked_held : mark_of (w.state x) ≡ mark.Held = ap (λ (u : Marked). u.mark) (sym (seen tag_in bits w d b s x x_in) ∙ read) ∙ is_held in
      let sleepy : is.0 ≡ false = not-woken h is.0 is.1 (ap mark_of (sym is.2) ∙ marked_held) in
      rests x g v rest.Blocked (Blocked g.tag) mark.Blocked g.alone x_in got same false (is.2 ∙ (λ i. Held h (sleepy i) (tag i))) (is.3 ∙ ap (carried_of w d x true) tag) refl refl refl
      (λ j f. refl) (λ p a c. c) (λ z e. (v, e, tagged))
