-- A claim.
use Rattle.std.proofs.Common.{◌≡◌, ℕ, ◌+◌, ◌^◌, true, false, ◌&&◌, ◌∷◌, refl, sym, ap, ◌∙◌, subst, arith, set, get_or, [], true≢false}
use mathlib.Core.Option as opt
use lib.ListN.{get_elem?}
use Rattle.arachne_core.specs.declared.{layout.TheConstants.MASK_BITS, place.Place.Place, state.State.State}
use Rattle.arachne_core.specs.{declared.state.State.TheVariants.{Free, Claimed}, Occupancy.occupancy_of}
use Rattle.arachne_core.specs.{Marked.{Marked, mark_word}, ContextTable.{mark_of, is_live_state, marked}}
use Rattle.arachne_core.specs.World.{World, IsContext, IsPlace, core_of, with_at, Allowed, after}
use Rattle.arachne_core.proofs.{Changes.{with_at-same, with_at-other}, KeepsOwnedOnce.keeps_owned_once}
use Rattle.arachne_core.specs.declared.event.Event.TheVariants as event
use Rattle.arachne_weights.specs.Tokens.{held}
use Rattle.arachne_rule.specs.{declared.view.{Carried.Carried, Known.Known}, Views.with_context}
use Rattle.arachne_rule.specs.Rule.{Coherent, carried_if, carried_of, HasValue, Board, Phase, ShowsWord, Shows}
use Rattle.arachne_rule.{specs.Changes.claimed_context, proofs.Carrying.{with-at, with-else}}
use Rattle.arachne_rule.proofs.{Marking.{mine-claimed, not-claimed}, Occupying.{occupying, one-more-shows}}

pub free-if-vacant : (s : State) → ((s ≡ Free → ⊥) → ⊥) → s ≡ Free
free-if-vacant Free n = refl
free-if-vacant _ n = absurd (n (λ e. cc))

module _ {T : Type 0} (tag_in : T → ℕ) (bits : ℕ) (w : World) (d : ℕ → Phase) (b : Board T) (s : Shows tag_in bits w d b)
    (h weight : ℕ) (k : Known) (mine : get_elem? b.views h ≡ opt.some (held weight k)) where
  abbrev pub after_claim : ℕ → Place → Board T
  after_claim x p = record b {
    occ = with_at b.occ p.core (b.occ p.core + (2 ^ p.index + 2 ^ MASK_BITS));
    views = set b.views h (held weight (with_context k (claimed_context x p (w.generation x))));
  }

  pub claim : (p : Place) → IsPlace w p → get_or (occupancy_of (b.occ p.core)).occupied p.index false ≡ false
      → (occupancy_of (b.occ p.core)).closed ≡ false → (occupancy_of (b.occ p.core)).exclusive ≡ false
      → (x : ℕ) × (w.at x ≡ p) × Allowed w (event.Claim h x) × Shows tag_in bits (after w (event.Claim h x)) d (after_claim x p)
  claim p p_in vacant opened shared =
      let f = s.owned.filled p p_in in
      let x : ℕ = f.0 in
      let x_in : IsContext w x = f.1 in
      let at : w.at x ≡ p = f.2 in
      let c : ℕ = core_of w x in
      let core : c ≡ p.core = ap (λ (q : Place). q.core) at in
      let word = s.cores p.core p_in.0 in
      let unoccupied : w.occupied (w.at x) ≡ false = ap w.occupied at ∙ sym (word.shows.occupied p.index) ∙ vacant in
      let is_free : w.state x ≡ Free = free-if-vacant (w.state x) (λ n. true≢false (sym ((s.owned.occupied x x_in).1 n) ∙ unoccupied)) in
      let closed : w.closed c ≡ false = ap w.closed core ∙ sym word.shows.closed ∙ opened in
      let alone : w.alone c ≡ false = ap w.alone core ∙ sym word.shows.exclusive ∙ shared in
      let may : Allowed w (event.Claim h x) = record { context = x_in; free = is_free; core = record { not_closed = closed; not_alone = alone } } in
      let old = s.contexts x x_in in
      let rest : Coherent Free (w.at x) (d x) = subst (λ (t : State). Coherent t (w.at x) (d x)) is_free old.coherent in
      let now : with_at w.state x (Claimed h) x ≡ Claimed h = with_at-same w.state x (Claimed h) in
      let v : World = after w (event.Claim h x) in
      let plain : Marked = record { mark = mark_of Free; alone = false; place = w.at x; generation = w.generation x } in
      let before : marked w x ≡ plain = λ i. record { mark = mark_of (is_free i); alone = is_live_state (is_free i) && w.alone c; place = w.at x; generation = w.generation x } in
      let here : marked v x ≡ plain = λ i. record { mark = mark_of (now i); alone = is_live_state (now i) && w.alone c; place = w.at x; generation = w.generation x } in
      let g : Carried = claimed_context x p (w.generation x) in
      let same : g ≡ carried_of v d x false 0 = λ i. record { context = x; place = sym at i; shown = (sym at ∙ sym rest.2) i; generation = w.generation x; held = false; tag = 0; alone = sym alone i; named = sym rest.1 i; away = sym rest.0 i } in (
        x,
        at,
        may,
        occupying tag_in bits w x (Claimed h) true w.alone d d b (after_claim x p) h weight k (with_context k g) s x_in
            (record {
              mine = mine;
              views = refl;
              occ = λ j _ n. with_at-other b.occ p.core _ j (λ e. n (e ∙ sym core));
              mark = λ y _. refl;
              home = λ y _. refl;
              name = λ q _. refl;
              phase = λ y n. refl;
              carried = λ y n. with-else g x y k.carried refl n;
              given = refl;
              ended = refl;
              alone = λ j _ n. refl;
              beside = λ y _ n m. refl;
            })
            (keeps_owned_once w (event.Claim h x) s.owned may)
            (subst (λ (n : ℕ). ShowsWord v c n)
            (ap (λ (q : Place). b.occ q.core + (2 ^ q.index + 2 ^ MASK_BITS)) at ∙ sym (ap (with_at b.occ p.core (b.occ p.core + (2 ^ p.index + 2 ^ MASK_BITS))) core ∙ with_at-same b.occ p.core _))
            (one-more-shows w x (b.occ c) (w.at x).index (Claimed h) w.alone (s.cores c (s.owned.placed x x_in).0) refl (omega (arith, (s.owned.placed x x_in).1, s.fits.1)) refl
            (ap (λ (q : Place). get_or (occupancy_of (b.occ q.core)).occupied q.index false) at ∙ vacant)))
            (record {
              within = old.within;
              coherent = subst (λ (t : State). Coherent t (w.at x) (d x)) (sym now) (λ _. rest.2);
              mark = old.mark ∙ ap (λ (m : Marked). mark_word bits (record m { place = (d x).shown })) (before ∙ sym here);
              named = old.named;
              value = λ e. subst (λ (t : State). HasValue tag_in t (b.home x)) (sym now) (subst (λ (t : State). HasValue tag_in t (b.home x)) is_free (old.value e));
            })
            (with-at g x k.carried refl ∙ ap (λ (r : Carried). r ∷ []) same ∙ sym (ap (λ (t : State). carried_if t h (carried_of v d x)) now ∙ mine-claimed h (carried_of v d x)))
            (λ j n. ap (λ (t : State). carried_if t j (carried_of w d x)) is_free ∙ sym (not-claimed h j (carried_of v d x) n) ∙ sym (ap (λ (t : State). carried_if t j (carried_of v d x)) now)),
      )
