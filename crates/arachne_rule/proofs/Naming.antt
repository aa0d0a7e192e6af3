-- The words that are corrected after a move, and after a take. Each changes what one context's words show and what its
-- seat knows of it, and the World not at all (`mends`); a context that was claimed stays claimed (`mends-claimed`). One
-- more word is one more lemma by these, with the field of `Phase` that it ends.
use Rattle.std.proofs.Common.{◌≡◌, ◌<◌, ℕ, Bool, true, false, ◌&&◌, ◌∷◌, refl, sym, ap, ◌∙◌, subst, inl, inr, set, []}
use Rattle.std.proofs.lemmas.Bool.{true≢false, cond-true, cond-false, false_from_ne_true}
use Rattle.std.specs.declared.option.Option.TheVariants.{None}
use mathlib.Core.Option as opt
use lib.ListN.{get_elem?}
use Rattle.arachne_core.specs.declared.{place.Place.Place, state.State.State}
use Rattle.arachne_core.specs.{declared.state.State.TheVariants.{Claimed, Held}, Place.same_place}
use Rattle.arachne_core.specs.{Marked.{Marked, mark_word}, World.{World, IsContext, IsPlace, core_of, with_at}}
use Rattle.arachne_core.specs.ContextTable.{mark_of, is_live_state, marked}
use Rattle.arachne_core.proofs.Changes.{with_at-same, with_at-other, same_place-true, same_place-refl, cases_place}
use Rattle.arachne_core.specs.declared.mark.Mark.TheVariants as mark
use Rattle.arachne_weights.specs.Tokens.{held}
use Rattle.arachne_rule.specs.{declared.view.{Carried.Carried, Known.Known}, Views.{carried_at, with_context}}
use Rattle.arachne_rule.specs.Rule.{settled, Coherent, carried_if, carried_of, share_of, HasValue, Board, Phase, ShowsContext, Shows}
use Rattle.arachne_rule.{specs.Changes.with_name, proofs.Shares.my-share}
use Rattle.arachne_rule.proofs.{Carrying.{with-at, with-else}, Views.{given-same, ended-same}}
use Rattle.arachne_rule.proofs.Marking.{Small, marking, claimed-carried, held-carried, mine-claimed, not-claimed, mine-held, not-held}

pub with_name-same : (f : Place → ℕ) (p : Place) (x : ℕ) → with_name f p x p ≡ x
with_name-same f p x = cond-true (same_place p p) x (f p) (same_place-refl p)

pub with_name-other : (f : Place → ℕ) (p : Place) (x : ℕ) (q : Place) → (q ≡ p → ⊥) → with_name f p x q ≡ f q
with_name-other f p x q n = cond-false (same_place q p) x (f q) (false_from_ne_true _ (λ e. n (same_place-true q p e)))

module _ {T : Type 0} (tag_in : T → ℕ) (bits : ℕ) (w : World) (d : ℕ → Phase) (b : Board T) (s : Shows tag_in bits w d b)
    (h weight : ℕ) (k : Known) (mine : get_elem? b.views h ≡ opt.some (held weight k)) where
  -- a seat has claimed what it carries and doesn't hold
  claims : (y : ℕ) (g : Carried) → IsContext w y → carried_at y k.carried ≡ g ∷ [] → g.held ≡ false → (w.state y ≡ Claimed h) × (g ≡ carried_of w d y false 0)
  claims y g y_in got free = claimed-carried (w.state y) h (carried_of w d y) g (λ q t. refl) (my-share tag_in bits w d b s h weight k mine y g y_in got) free

  abbrev unchanged : Small
  unchanged = record { state = w.state; generation = w.generation; given = w.given; ended = w.ended }

  -- only the seat's knowledge of context y, and the words at its places, change
  mends : (y : ℕ) (g : Carried) (r : Phase) (a : Board T) → IsContext w y → g.context ≡ y
      → a.views ≡ set b.views h (held weight (with_context k g))
      → ((j : ℕ) → j < w.cores → a.occ j ≡ b.occ j)
      → ((z : ℕ) → IsContext w z → (z ≡ y → ⊥) → a.mark z ≡ b.mark z)
      → ((z : ℕ) → IsContext w z → (z ≡ y → ⊥) → a.home z ≡ b.home z)
      → ((p : Place) → IsPlace w p → (p ≡ w.at y → ⊥) → a.name p ≡ b.name p)
      → ShowsContext tag_in bits w (with_at d y r) a y
      → IsContext w (a.name (w.at y))
      → g ∷ [] ≡ share_of w (with_at d y r) h y
      → ((j : ℕ) → (j ≡ h → ⊥) → share_of w d j y ≡ share_of w (with_at d y r) j y)
      → Shows tag_in bits w (with_at d y r) a
  mends y g r a y_in same views occ mark home name here named share others =
      marking tag_in bits w unchanged d (with_at d y r) b a y h weight k (with_context k g) s y_in
      (record {
        mine = mine;
        views = views;
        occ = occ;
        mark = mark;
        home = home;
        name = name;
        phase = λ z m. with_at-other d y r z m;
        carried = λ z m. with-else g y z k.carried same m;
        state = λ z m. refl;
        generation = λ z m. refl;
      })
      s.owned here named
      (with-at g y k.carried same ∙ share) others
      (λ t. s.given t ∙ given-same b.views h weight k (with_context k g) mine refl t)
      (λ t. s.ended t ∙ ended-same b.views h weight k (with_context k g) mine refl t)

  -- the same of a context that is claimed and stays so
  mends-claimed : (y : ℕ) (g : Carried) (r : Phase) (a : Board T) → IsContext w y → g.context ≡ y → w.state y ≡ Claimed h → g ≡ carried_of w (with_at d y r) y false 0
      → a.views ≡ set b.views h (held weight (with_context k g)) → ((j : ℕ) → j < w.cores → a.occ j ≡ b.occ j)
      → ((z : ℕ) → IsContext w z → (z ≡ y → ⊥) → a.mark z ≡ b.mark z) → ((z : ℕ) → IsContext w z → (z ≡ y → ⊥) → a.home z ≡ b.home z)
      → ((p : Place) → IsPlace w p → (p ≡ w.at y → ⊥) → a.name p ≡ b.name p) → ShowsContext tag_in bits w (with_at d y r) a y → IsContext w (a.name (w.at y))
      → Shows tag_in bits w (with_at d y r) a
  mends-claimed y g r a y_in same claimed g_is views occ mark home name here named =
      let e : ℕ → Phase = with_at d y r in
      mends y g r a y_in same views occ mark home name here named
      (ap (λ (u : Carried). u ∷ []) g_is ∙ sym (ap (λ (t : State). carried_if t h (carried_of w e y)) claimed ∙ mine-claimed h (carried_of w e y)))
      (λ j m. ap (λ (t : State). carried_if t j (carried_of w d y)) claimed ∙ not-claimed h j (carried_of w d y) m ∙ sym (ap (λ (t : State). carried_if t j (carried_of w e y)) claimed ∙ not-claimed h j (carried_of w e y) m))

  -- the place word of any place that names y, which this seat's move has left unnamed, may name any context instead
  pub name_target : (q : Place) (x y : ℕ) (g : Carried) → IsContext w x → IsContext w y → b.name q ≡ y → carried_at y k.carried ≡ g ∷ [] → g.held ≡ false → g.named ≡ false
      → Shows tag_in bits w d (record b { name = with_name b.name q x })
  name_target q x y g x_in y_in found got free unnamed =
      let is = claims y g y_in got free in
      let unnamed' : (d y).named ≡ false = sym (ap (λ (r : Carried). r.named) is.1) ∙ unnamed in
      record {
        owned = s.owned;
        fits = s.fits;
        beyond = s.beyond;
        cores = s.cores;
        contexts = λ z z_in. let old = s.contexts z z_in in record {
          within = old.within;
          coherent = old.coherent;
          mark = old.mark;
          named = λ e. with_name-other b.name q x (w.at z) (λ f.
              let zy : z ≡ y = sym (old.named e) ∙ ap b.name f ∙ found in
              true≢false (sym e ∙ ap (λ (u : ℕ). (d u).named) zy ∙ unnamed')) ∙ old.named e;
          value = old.value;
        };
        names = λ p p_in. elim (cases_place p q) [
          | inl f ↦ subst (IsContext w) (sym (ap (with_name b.name q x) f ∙ with_name-same b.name q x)) x_in
          | inr n ↦ subst (IsContext w) (sym (with_name-other b.name q x p n)) (s.names p p_in)
        ];
        carried = s.carried;
        seats = s.seats;
        given = s.given;
        ended = s.ended;
      }

  -- the mark word of y shows the place at which it stands now
  pub replace : (y : ℕ) (g : Carried) → IsContext w y → carried_at y k.carried ≡ g ∷ [] → g.context ≡ y → g.held ≡ false
      → Shows tag_in bits w (with_at d y (record (d y) { shown = g.place })) (record b {
        mark = with_at b.mark y (mark_word bits (record { mark = mark.Free; alone = false; place = g.place; generation = g.generation }));
        views = set b.views h (held weight (with_context k (record g { shown = g.place })));
      })
  replace y g y_in got same free =
      let is = claims y g y_in got free in
      let place : g.place ≡ w.at y = ap (λ (r : Carried). r.place) is.1 in
      let r : Phase = record (d y) { shown = g.place } in
      let e : ℕ → Phase = with_at d y r in
      let g' : Carried = record g { shown = g.place } in
      let n : Marked = record { mark = mark.Free; alone = false; place = g.place; generation = g.generation } in
      let a : Board T = record b { mark = with_at b.mark y (mark_word bits n); views = set b.views h (held weight (with_context k g')) } in
      let now = with_at-same d y r in
      let old = s.contexts y y_in in
      let g_is : g' ≡ carried_of w e y false 0 = λ i. record {
        context = same i;
        place = place i;
        shown = sym (ap (λ (u : Phase). u.shown) now) i;
        generation = (is.1 i).generation;
        held = (is.1 i).held;
        tag = (is.1 i).tag;
        alone = (is.1 i).alone;
        named = (ap (λ (u : Carried). u.named) is.1 ∙ sym (ap (λ (u : Phase). u.named) now)) i;
        away = (ap (λ (u : Carried). u.away) is.1 ∙ sym (ap (λ (u : Phase). u.away) now)) i;
      } in
      mends-claimed y g' r a y_in same is.0 g_is refl (λ j _. refl) (λ z _ m. with_at-other b.mark y (mark_word bits n) z m) (λ z _ m. refl) (λ p _ m. refl)
      (record {
        within = subst (λ (u : Phase). IsPlace w u.shown) (sym now) (subst (IsPlace w) (sym place) (s.owned.placed y y_in));
        coherent = subst (λ (t : State). Coherent t (w.at y) (e y)) (sym is.0) (λ _. ap (λ (u : Phase). u.shown) now ∙ place);
        mark = with_at-same b.mark y (mark_word bits n) ∙ sym (ap (mark_word bits) (λ i. record { mark = mark_of (is.0 i); alone = is_live_state (is.0 i) && w.alone (core_of w y); place = (now i).shown; generation = (sym (ap (λ (u : Carried). u.generation) is.1)) i }));
        named = λ f. old.named (ap (λ (u : Phase). u.named) (sym now) ∙ f);
        value = λ f. old.value (ap (λ (u : Phase). u.away) (sym now) ∙ f);
      })
      (s.names (w.at y) (s.owned.placed y y_in))

  -- the place word of the place that was left names y
  pub name_source : (y : ℕ) (g : Carried) → IsContext w y → carried_at y k.carried ≡ g ∷ [] → g.context ≡ y → g.held ≡ false → g.shown ≡ g.place
      → Shows tag_in bits w (with_at d y (record (d y) { named = true })) (record b {
        name = with_name b.name g.place y;
        views = set b.views h (held weight (with_context k (record g { named = true })));
      })
  name_source y g y_in got same free settled =
      let is = claims y g y_in got free in
      let place : g.place ≡ w.at y = ap (λ (r : Carried). r.place) is.1 in
      let r : Phase = record (d y) { named = true } in
      let e : ℕ → Phase = with_at d y r in
      let g' : Carried = record g { named = true } in
      let a : Board T = record b { name = with_name b.name g.place y; views = set b.views h (held weight (with_context k g')) } in
      let now = with_at-same d y r in
      let old = s.contexts y y_in in
      let shown : (d y).shown ≡ w.at y = sym (ap (λ (u : Carried). u.shown) is.1) ∙ settled ∙ place in
      let g_is : g' ≡ carried_of w e y false 0 = λ i. record {
        context = same i;
        place = place i;
        shown = (ap (λ (u : Carried). u.shown) is.1 ∙ sym (ap (λ (u : Phase). u.shown) now)) i;
        generation = (is.1 i).generation;
        held = (is.1 i).held;
        tag = (is.1 i).tag;
        alone = (is.1 i).alone;
        named = (sym (ap (λ (u : Phase). u.named) now)) i;
        away = (ap (λ (u : Carried). u.away) is.1 ∙ sym (ap (λ (u : Phase). u.away) now)) i;
      } in
      let names : a.name (w.at y) ≡ y = ap a.name (sym place) ∙ with_name-same b.name g.place y in
      mends-claimed y g' r a y_in same is.0 g_is refl (λ j _. refl) (λ z _ m. refl) (λ z _ m. refl) (λ p _ m. with_name-other b.name g.place y p (λ f. m (f ∙ place)))
      (record {
        within = subst (λ (u : Phase). IsPlace w u.shown) (sym now) old.within;
        coherent = subst (λ (t : State). Coherent t (w.at y) (e y)) (sym is.0) (λ _. ap (λ (u : Phase). u.shown) now ∙ shown);
        mark = old.mark ∙ ap (λ (u : Phase). mark_word bits (record (marked w y) { place = u.shown })) (sym now);
        named = λ _. names;
        value = λ f. old.value (ap (λ (u : Phase). u.away) (sym now) ∙ f);
      })
      (subst (IsContext w) (sym names) y_in)

  -- the place word of a held context's place names it, and the empty slot goes home
  pub keep_name : (x : ℕ) (g : Carried) → IsContext w x → carried_at x k.carried ≡ g ∷ [] → g.context ≡ x → g.held ≡ true
      → Shows tag_in bits w (with_at d x (record (d x) { named = true; away = false })) (record b {
        name = with_name b.name g.place x;
        home = with_at b.home x (opt.some (opt.some None));
        views = set b.views h (held weight (with_context k (record g { named = true; away = false })));
      })
  keep_name x g x_in got same holds =
      let is = held-carried (w.state x) h (carried_of w d x) g (λ q t. refl) (my-share tag_in bits w d b s h weight k mine x g x_in got) holds in
      let woken : Bool = is.0 in
      let tag : ℕ = is.1 in
      let here : w.state x ≡ Held h woken tag = is.2 in
      let place : g.place ≡ w.at x = ap (λ (r : Carried). r.place) is.3 in
      let r : Phase = record (d x) { named = true; away = false } in
      let e : ℕ → Phase = with_at d x r in
      let g' : Carried = record g { named = true; away = false } in
      let a : Board T = record b { name = with_name b.name g.place x; home = with_at b.home x (opt.some (opt.some None)); views = set b.views h (held weight (with_context k g')) } in
      let now : e x ≡ r = with_at-same d x r in
      let old = s.contexts x x_in in
      let shown : (d x).shown ≡ w.at x = subst (λ (t : State). Coherent t (w.at x) (d x)) here old.coherent in
      let g_is : g' ≡ carried_of w e x true tag = λ i. record {
        context = same i;
        place = place i;
        shown = (ap (λ (u : Carried). u.shown) is.3 ∙ sym (ap (λ (u : Phase). u.shown) now)) i;
        generation = (is.3 i).generation;
        held = (is.3 i).held;
        tag = (is.3 i).tag;
        alone = (is.3 i).alone;
        named = (sym (ap (λ (u : Phase). u.named) now)) i;
        away = (sym (ap (λ (u : Phase). u.away) now)) i;
      } in
      let names : a.name (w.at x) ≡ x = ap a.name (sym place) ∙ with_name-same b.name g.place x in
      mends x g' r a x_in same refl (λ j _. refl) (λ z _ m. refl) (λ z _ m. with_at-other b.home x (opt.some (opt.some None)) z m) (λ p _ m. with_name-other b.name g.place x p (λ f. m (f ∙ place)))
      (record {
        within = subst (λ (u : Phase). IsPlace w u.shown) (sym now) old.within;
        coherent = subst (λ (t : State). Coherent t (w.at x) (e x)) (sym here) (ap (λ (u : Phase). u.shown) now ∙ shown);
        mark = old.mark ∙ ap (λ (u : Phase). mark_word bits (record (marked w x) { place = u.shown })) (sym now);
        named = λ _. names;
        value = λ _. subst (λ (t : State). HasValue tag_in t (a.home x)) (sym here) (with_at-same b.home x (opt.some (opt.some None)));
      })
      (subst (IsContext w) (sym names) x_in)
      (ap (λ (u : Carried). u ∷ []) g_is ∙ sym (ap (λ (t : State). carried_if t h (carried_of w e x)) here ∙ mine-held h woken tag (carried_of w e x)))
      (λ j m. ap (λ (t : State). carried_if t j (carried_of w d x)) here ∙ not-held h woken tag j (carried_of w d x) m ∙ sym (ap (λ (t : State). carried_if t j (carried_of w e x)) here ∙ not-held h woken tag j (carried_of w e x) m))
