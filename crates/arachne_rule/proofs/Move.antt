-- A move: the mark word of x changes, and two contexts swap places.
use Rattle.std.proofs.Common.{◌≡◌, ◌≢◌, ℕ, Bool, true, false, ◌&&◌, ◌∷◌, refl, sym, ap, ◌∙◌, subst, inl, inr, set, []}
use Rattle.std.proofs.lemmas.Bool.{true≢false, cases_eq}
use mathlib.Core.Option as opt
use lib.ListN.{get_elem?}
use Rattle.arachne_core.proofs.{Changes.{with_at-same, with_at-other}, KeepsOwnedOnce.keeps_owned_once}
use Rattle.arachne_core.specs.{ContextTable.{mark_of, is_live_state, marked}, Marked.{Marked, mark_word, marked_of}}
use Rattle.arachne_core.specs.World.{World, IsContext, IsPlace, core_of, with_at, IsAtRest, Allowed, after}
use Rattle.arachne_core.specs.declared.{place.Place.Place, state.State.State}
use Rattle.arachne_core.specs.declared.state.State.TheVariants.{Claimed, Ready, Blocked}
use Rattle.arachne_core.specs.declared.event.Event.TheVariants as event
use Rattle.arachne_weights.specs.Tokens.{held, learns}
use Rattle.arachne_rule.{proofs.Carrying.{with-at, with-else, known-there}, specs.Changes.{left_context, moved_phase}}
use Rattle.arachne_rule.{proofs.Marking.{claimed-carried, mine-claimed, not-claimed}, specs.Plays.IsRestMark}
use Rattle.arachne_rule.proofs.Seen.{rest-mark, rest-live, rest-coherent, coherent-rest, seen}
use Rattle.arachne_rule.proofs.Views.{learned-else, learned-here, given-same, ended-same}
use Rattle.arachne_rule.specs.Rule.{Coherent, carried_if, carried_of, share_of, Board, Phase, ShowsContext, Shows}
use Rattle.arachne_rule.specs.{Views.{known_at, carried_at, with_context}, declared.view.{Carried.Carried, Known.Known}}

-- no seat carries a thread at rest
no-share : (s : State) → IsAtRest s → (h : ℕ) (f : Bool → ℕ → Carried) → carried_if s h f ≡ []
no-share (Ready t) r h f = refl
no-share (Blocked t) r h f = refl
no-share s r h f = absurd r

rest-not-claimed : (s : State) → IsAtRest s → (h : ℕ) → s ≡ Claimed h → ⊥
rest-not-claimed s r h e = subst IsAtRest e r

module _ {T : Type 0} (tag_in : T → ℕ) (bits : ℕ) (w : World) (d : ℕ → Phase) (b : Board T) (s : Shows tag_in bits w d b)
    (h weight : ℕ) (k : Known) (mine : get_elem? b.views h ≡ opt.some (held weight k)) where
  abbrev pub after_move : ℕ → Marked → Carried → Board T
  after_move x m g = record b {
    mark = with_at b.mark x (mark_word bits (record m { place = g.place }));
    views = set b.views h (held weight (with_context k (left_context g m.place)));
  }

  pub move : (x y : ℕ) (m : Marked) (g : Carried) → IsContext w x → IsContext w y
      → marked_of bits (b.mark x) ≡ m → IsRestMark m.mark → m.alone ≡ false
      → carried_at y k.carried ≡ g ∷ [] → g.context ≡ y → g.held ≡ false → g.named ≡ true → g.alone ≡ false
      → m.place.core ≢ g.place.core
      → Allowed w (event.Move h x y) × Shows tag_in bits (after w (event.Move h x y)) (moved_phase d x y g.place) (after_move x m g)
  move x y m g x_in y_in read rests shared got same free named mine_shared apart_cores =
      let has : share_of w d h y ≡ g ∷ [] = sym (s.carried h y y_in) ∙ ap (λ (r : Known). carried_at y r.carried) (known-there b.views h (held weight k) mine) ∙ got in
      let is = claimed-carried (w.state y) h (carried_of w d y) g (λ q t. refl) has free in
      let claimed : w.state y ≡ Claimed h = is.0 in
      let q_is : g.place ≡ w.at y = ap (λ (r : Carried). r.place) is.1 in
      let y_alone : w.alone (core_of w y) ≡ false = sym (ap (λ (r : Carried). r.alone) is.1) ∙ mine_shared in
      let oldx = s.contexts x x_in in
      let oldy = s.contexts y y_in in
      let x_is : m ≡ record (marked w x) { place = (d x).shown } = sym read ∙ seen tag_in bits w d b s x x_in in
      let x_rests : IsAtRest (w.state x) = rest-mark (w.state x) (subst IsRestMark (ap (λ (r : Marked). r.mark) x_is) rests) in
      let cx = rest-coherent (w.state x) (w.at x) (d x) x_rests oldx.coherent in
      let p_is : m.place ≡ w.at x = ap (λ (r : Marked). r.place) x_is ∙ cx.1 in
      let x_alone : w.alone (core_of w x) ≡ false = sym (ap (λ (t : Bool). t && w.alone (core_of w x)) (rest-live (w.state x) x_rests)) ∙ sym (ap (λ (r : Marked). r.alone) x_is) ∙ shared in
      let cores : core_of w x ≢ core_of w y = λ f. apart_cores (ap (λ (p : Place). p.core) p_is ∙ f ∙ sym (ap (λ (p : Place). p.core) q_is)) in
      let may : Allowed w (event.Move h x y) = record { from = x_in; to = y_in; at_rest = x_rests; claimed = claimed; apart = cores; from_core = x_alone; to_core = y_alone } in
      let v : World = after w (event.Move h x y) in
      let apart : x ≡ y → ⊥ = λ f. rest-not-claimed (w.state x) x_rests h (ap w.state f ∙ claimed) in
      let e : ℕ → Phase = moved_phase d x y g.place in
      let a : Board T = after_move x m g in
      let new : Known = with_context k (left_context g m.place) in
      let at_y : v.at y ≡ w.at x = with_at-same (with_at w.at x (w.at y)) y (w.at x) in
      let at_x : v.at x ≡ w.at y = with_at-other (with_at w.at x (w.at y)) y (w.at x) x apart ∙ with_at-same w.at x (w.at y) in
      let at_z : (z : ℕ) → (z ≡ x → ⊥) → (z ≡ y → ⊥) → v.at z ≡ w.at z = λ z n o. with_at-other (with_at w.at x (w.at y)) y (w.at x) z o ∙ with_at-other w.at x (w.at y) z n in
      let ax : Phase = record { away = false; named = false; shown = g.place } in
      let ay : Phase = record (d y) { named = false } in
      let e_y : e y ≡ ay = with_at-same (with_at d x ax) y ay in
      let e_x : e x ≡ ax = with_at-other (with_at d x ax) y ay x apart ∙ with_at-same d x ax in
      let e_z : (z : ℕ) → (z ≡ x → ⊥) → (z ≡ y → ⊥) → e z ≡ d z = λ z n o. with_at-other (with_at d x ax) y ay z o ∙ with_at-other d x ax z n in
      let alone_x : (is_live_state (w.state x) && w.alone (core_of v x)) ≡ m.alone = ap (λ (t : Bool). t && w.alone (core_of v x)) (rest-live (w.state x) x_rests) ∙ ap (λ (p : Place). w.alone p.core) at_x ∙ y_alone ∙ sym shared in
      let here_x : ShowsContext tag_in bits v e a x = record {
        within = subst (λ (p : Place). IsPlace w p) (sym (ap (λ (r : Phase). r.shown) e_x ∙ q_is)) (s.owned.placed y y_in);
        coherent = coherent-rest (w.state x) (v.at x) (e x) x_rests (ap (λ (r : Phase). r.away) e_x, ap (λ (r : Phase). r.shown) e_x ∙ q_is ∙ sym at_x);
        mark = with_at-same b.mark x _ ∙ ap (mark_word bits) (λ i. record { mark = (x_is i).mark; alone = sym alone_x i; place = (sym e_x i).shown; generation = (x_is i).generation });
        named = λ f. absurd (true≢false (sym f ∙ ap (λ (r : Phase). r.named) e_x));
        value = λ _. oldx.value cx.0;
      } in
      let here_y : ShowsContext tag_in bits v e a y = record {
        within = subst (λ (r : Phase). IsPlace w r.shown) (sym e_y) oldy.within;
        coherent = subst (λ (t : State). Coherent t (v.at y) (e y)) (sym claimed) (λ f. absurd (true≢false (sym f ∙ ap (λ (r : Phase). r.named) e_y)));
        mark = with_at-other b.mark x _ y (λ f. apart (sym f)) ∙ oldy.mark ∙ ap (mark_word bits) (λ i. record {
          mark = mark_of (w.state y);
          alone = (ap (λ (t : State). is_live_state t && w.alone (core_of w y)) claimed ∙ sym (ap (λ (t : State). is_live_state t && w.alone (core_of v y)) claimed)) i;
          place = (sym e_y i).shown;
          generation = w.generation y;
        });
        named = λ f. absurd (true≢false (sym f ∙ ap (λ (r : Phase). r.named) e_y));
        value = λ f. oldy.value (ap (λ (r : Phase). r.away) (sym e_y) ∙ f);
      } in
      let here_z : (z : ℕ) → IsContext w z → (z ≡ x → ⊥) → (z ≡ y → ⊥) → ShowsContext tag_in bits v e a z = λ z z_in n o. let old = s.contexts z z_in in record {
        within = subst (λ (r : Phase). IsPlace w r.shown) (sym (e_z z n o)) old.within;
        coherent = subst (λ (r : Phase). Coherent (w.state z) (v.at z) r) (sym (e_z z n o)) (subst (λ (p : Place). Coherent (w.state z) p (d z)) (sym (at_z z n o)) old.coherent);
        mark = with_at-other b.mark x _ z n ∙ old.mark ∙ ap (mark_word bits) (λ i. record {
          mark = mark_of (w.state z);
          alone = is_live_state (w.state z) && w.alone (sym (at_z z n o) i).core;
          place = (sym (e_z z n o) i).shown;
          generation = w.generation z;
        });
        named = λ f. ap b.name (at_z z n o) ∙ old.named (ap (λ (r : Phase). r.named) (sym (e_z z n o)) ∙ f);
        value = λ f. old.value (ap (λ (r : Phase). r.away) (sym (e_z z n o)) ∙ f);
      } in
      let carried_x : (j : ℕ) → carried_at x (known_at a.views j).carried ≡ share_of v e j x = λ j.
      learned-else b.views h weight k new mine x (with-else (left_context g m.place) y x k.carried same apart) j
      ∙ s.carried j x x_in ∙ no-share (w.state x) x_rests j (carried_of w d x) ∙ sym (no-share (w.state x) x_rests j (carried_of v e x)) in
      let now_left : left_context g m.place ≡ carried_of v e y false 0 = λ i. record {
        context = same i;
        place = (p_is ∙ sym at_y) i;
        shown = (ap (λ (r : Carried). r.shown) is.1 ∙ ap (λ (r : Phase). r.shown) (sym e_y)) i;
        generation = (is.1 i).generation;
        held = (is.1 i).held;
        tag = (is.1 i).tag;
        alone = (mine_shared ∙ sym x_alone ∙ ap (λ (p : Place). w.alone p.core) (sym at_y)) i;
        named = (sym e_y i).named;
        away = (ap (λ (r : Carried). r.away) is.1 ∙ ap (λ (r : Phase). r.away) (sym e_y)) i;
      } in
      let carried_y : (j : ℕ) → carried_at y (known_at a.views j).carried ≡ share_of v e j y =
      learned-here b.views h weight k new mine y (λ (j : ℕ). share_of v e j y)
      (with-at (left_context g m.place) y k.carried same ∙ ap (λ (r : Carried). r ∷ []) now_left ∙ sym (ap (λ (t : State). carried_if t h (carried_of v e y)) claimed ∙ mine-claimed h (carried_of v e y)))
      (λ j n. s.carried j y y_in ∙ ap (λ (t : State). carried_if t j (carried_of w d y)) claimed ∙ not-claimed h j (carried_of w d y) n ∙ sym (ap (λ (t : State). carried_if t j (carried_of v e y)) claimed ∙ not-claimed h j (carried_of v e y) n)) in
      let carried_z : (j z : ℕ) → IsContext w z → (z ≡ x → ⊥) → (z ≡ y → ⊥) → carried_at z (known_at a.views j).carried ≡ share_of v e j z = λ j z z_in n o.
      learned-else b.views h weight k new mine z (with-else (left_context g m.place) y z k.carried same o) j
      ∙ s.carried j z z_in ∙ ap (carried_if (w.state z) j) (λ i held tag. record {
        context = z;
        place = sym (at_z z n o) i;
        shown = (sym (e_z z n o) i).shown;
        generation = w.generation z;
        held = held;
        tag = tag;
        alone = w.alone (sym (at_z z n o) i).core;
        named = (sym (e_z z n o) i).named;
        away = (sym (e_z z n o) i).away;
      }) in (
        may,
        record {
          owned = keeps_owned_once w (event.Move h x y) s.owned may;
          fits = s.fits;
          beyond = s.beyond;
          cores = λ c c_in. let old = s.cores c c_in in record { packed = old.packed; shows = record { occupied = old.shows.occupied; closed = old.shows.closed; exclusive = old.shows.exclusive } };
          contexts = λ z z_in. elim (cases_eq z x) [
            | inl f ↦ subst (ShowsContext tag_in bits v e a) (sym f) here_x
            | inr n ↦ elim (cases_eq z y) [
              | inl f ↦ subst (ShowsContext tag_in bits v e a) (sym f) here_y
              | inr o ↦ here_z z z_in n o
            ]
          ];
          names = s.names;
          carried = λ j z z_in. elim (cases_eq z x) [
            | inl f ↦ subst (λ (u : ℕ). carried_at u (known_at a.views j).carried ≡ share_of v e j u) (sym f) (carried_x j)
            | inr n ↦ elim (cases_eq z y) [
              | inl f ↦ subst (λ (u : ℕ). carried_at u (known_at a.views j).carried ≡ share_of v e j u) (sym f) (carried_y j)
              | inr o ↦ carried_z j z z_in n o
            ]
          ];
          seats = learns s.seats h weight k new mine;
          given = λ t. s.given t ∙ given-same b.views h weight k new mine refl t;
          ended = λ t. s.ended t ∙ ended-same b.views h weight k new mine refl t;
        },
      )
