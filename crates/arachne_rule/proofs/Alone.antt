-- A claim of a whole core, whose word is 0.
use Rattle.std.proofs.Common.{◌≡◌, ℕ, ◌+◌, ◌<◌, ◌^◌, Bool, true, false, ◌&&◌, List, ◌∷◌, refl, sym, ap, ◌∙◌, subst, arith, inl, inr, set, get_or, get_or-set_other, [], get_or-set_same}
use Rattle.std.proofs.lemmas.Bool.{true≢false, cases_eq}
use mathlib.Core.Option as opt
use lib.ListN.{get_elem?}
use Rattle.arachne_core.specs.declared.{layout.TheConstants.MASK_BITS, place.Place.Place, state.State.State}
use Rattle.arachne_core.specs.{declared.state.State.TheVariants.{Free, Claimed}, Marked.{Marked, mark_word}}
use Rattle.arachne_core.specs.Occupancy.{Occupancy, occupancy_of, HasOneMore, vacant}
use Rattle.arachne_core.specs.World.{World, IsContext, core_of, with_at, with_place, Allowed, after, IsEmptyCore}
use Rattle.arachne_core.{specs.ContextTable.{mark_of, is_live_state, marked}, proofs.KeepsOwnedOnce.keeps_owned_once}
use Rattle.arachne_core.proofs.Changes.{with_at-same, with_at-other, with_place-same, with_place-other}
use Rattle.arachne_core.proofs.OccupancyWords.{length-flags, has_one_more, now_exclusive, packs_vacant, vacant-flag, vacant-open}
use Rattle.arachne_core.specs.declared.event.Event.TheVariants as event
use Rattle.arachne_weights.specs.Tokens.{held}
use Rattle.arachne_rule.specs.{declared.view.{Carried.Carried, Known.Known}, Views.with_context}
use Rattle.arachne_rule.specs.Rule.{Coherent, carried_if, carried_of, HasValue, Board, Phase, ShowsWord, Shows}
use Rattle.arachne_rule.{specs.Changes.alone_context, proofs.Carrying.{with-at, with-else}}
use Rattle.arachne_rule.proofs.{Marking.{mine-claimed, not-claimed}, Occupying.occupying, Claim.free-if-vacant}

module _ {T : Type 0} (tag_in : T → ℕ) (bits : ℕ) (w : World) (d : ℕ → Phase) (b : Board T) (s : Shows tag_in bits w d b)
    (h weight : ℕ) (k : Known) (mine : get_elem? b.views h ≡ opt.some (held weight k)) where
  pub claim_alone : (c : ℕ) → c < w.cores → 0 < w.slots → b.occ c ≡ 0
      → (x : ℕ) × (w.at x ≡ record { core = c; index = 0 }) × Allowed w (event.Alone h x)
      × Shows tag_in bits (after w (event.Alone h x)) d (record b {
        occ = with_at b.occ c (0 + 2 ^ 63 + (2 ^ 0 + 2 ^ MASK_BITS));
        views = set b.views h (held weight (with_context k (alone_context x c (w.generation x))));
      })
  claim_alone c0 c0_in some_slot zero_word =
      let p : Place = record { core = c0; index = 0 } in
      let f = s.owned.filled p (c0_in, some_slot) in
      let x : ℕ = f.0 in
      let x_in : IsContext w x = f.1 in
      let at : w.at x ≡ p = f.2 in
      let c : ℕ = core_of w x in
      let core : c ≡ c0 = ap (λ (q : Place). q.core) at in
      let index : (w.at x).index ≡ 0 = ap (λ (q : Place). q.index) at in
      let word = s.cores c0 c0_in in
      let reads : occupancy_of (b.occ c0) ≡ vacant = ap occupancy_of zero_word ∙ packs_vacant.1 in
      let none : (i : ℕ) → w.occupied (record { core = c0; index = i }) ≡ false = λ i. sym (word.shows.occupied i) ∙ ap (λ (o : Occupancy). get_or o.occupied i false) reads ∙ vacant-flag i in
      let unoccupied : w.occupied (w.at x) ≡ false = ap w.occupied at ∙ none 0 in
      let is_free : w.state x ≡ Free = free-if-vacant (w.state x) (λ n. true≢false (sym ((s.owned.occupied x x_in).1 n) ∙ unoccupied)) in
      let closed : w.closed c ≡ false = ap w.closed core ∙ sym word.shows.closed ∙ ap (λ (o : Occupancy). o.closed) reads ∙ vacant-open.0 in
      let alone : w.alone c ≡ false = ap w.alone core ∙ sym word.shows.exclusive ∙ ap (λ (o : Occupancy). o.exclusive) reads ∙ vacant-open.1 in
      let empty : IsEmptyCore w c = λ i i_in. ap (λ (j : ℕ). w.occupied (record { core = j; index = i })) core ∙ none i in
      let may : Allowed w (event.Alone h x) = record { context = x_in; free = is_free; core = record { not_closed = closed; not_alone = alone }; first = index; empty = empty } in
      let old = s.contexts x x_in in
      let rest : Coherent Free (w.at x) (d x) = subst (λ (t : State). Coherent t (w.at x) (d x)) is_free old.coherent in
      let now : with_at w.state x (Claimed h) x ≡ Claimed h = with_at-same w.state x (Claimed h) in
      let v : World = after w (event.Alone h x) in
      let al : ℕ → Bool = with_at w.alone c true in
      let plain : Marked = record { mark = mark_of Free; alone = false; place = w.at x; generation = w.generation x } in
      let before : marked w x ≡ plain = λ i. record { mark = mark_of (is_free i); alone = is_live_state (is_free i) && w.alone c; place = w.at x; generation = w.generation x } in
      let here : marked v x ≡ plain = λ i. record { mark = mark_of (now i); alone = is_live_state (now i) && al c; place = w.at x; generation = w.generation x } in
      let g : Carried = alone_context x c0 (w.generation x) in
      let k' : Known = with_context k g in
      let a : Board T = record b { occ = with_at b.occ c0 (0 + 2 ^ 63 + (2 ^ 0 + 2 ^ MASK_BITS)); views = set b.views h (held weight k') } in
      let same : g ≡ carried_of v d x false 0 = λ i. record { context = x; place = sym at i; shown = (sym at ∙ sym rest.2) i; generation = w.generation x; held = false; tag = 0; alone = sym (with_at-same w.alone c true) i; named = sym rest.1 i; away = sym rest.0 i } in
      let flag = now_exclusive 0 packs_vacant.0 (ap (λ (o : Occupancy). o.exclusive) packs_vacant.1 ∙ vacant-open.1) in
      let m : HasOneMore (0 + 2 ^ 63) 0 (0 + 2 ^ 63 + (2 ^ 0 + 2 ^ MASK_BITS)) = has_one_more (0 + 2 ^ 63) 0 flag.0 (omega arith)
      (ap (λ (o : Occupancy). get_or o.occupied 0 false) (flag.1) ∙ ap (λ (o : Occupancy). get_or o.occupied 0 false) packs_vacant.1 ∙ vacant-flag 0) in
      let new : ℕ = 0 + 2 ^ 63 + (2 ^ 0 + 2 ^ MASK_BITS) in
      let was : (j : ℕ) → get_or (occupancy_of (0 + 2 ^ 63)).occupied j false ≡ w.occupied (record { core = c; index = j }) = λ j.
      ap (λ (o : Occupancy). get_or o.occupied j false) flag.1 ∙ ap (λ (o : Occupancy). get_or o.occupied j false) packs_vacant.1 ∙ vacant-flag j
      ∙ sym (ap (λ (i : ℕ). w.occupied (record { core = i; index = j })) core ∙ none j) in
      let word_here : ShowsWord v c new = record {
        packed = m.new_word;
        shows = record {
          occupied = λ j. ap (λ (bs : List Bool). get_or bs j false) m.occupied ∙ elim (cases_eq j 0) [
            | inl e ↦ ap (λ (n : ℕ). get_or (set (occupancy_of (0 + 2 ^ 63)).occupied 0 true) n false) e
                ∙ get_or-set_same (occupancy_of (0 + 2 ^ 63)).occupied 0 true false (omega (arith, length-flags MASK_BITS (0 + 2 ^ 63)))
                ∙ sym (with_place-same w.occupied (w.at x) true)
                ∙ ap (λ (n : ℕ). with_place w.occupied (w.at x) true (record { core = c; index = n })) (index ∙ sym e)
            | inr n ↦ get_or-set_other (occupancy_of (0 + 2 ^ 63)).occupied 0 j true false n ∙ was j
                ∙ sym (with_place-other w.occupied (w.at x) true (record { core = c; index = j }) (λ e. n (ap (λ (q : Place). q.index) e ∙ index)))
          ];
          closed = m.closed ∙ ap (λ (o : Occupancy). o.closed) flag.1 ∙ ap (λ (o : Occupancy). o.closed) packs_vacant.1 ∙ vacant-open.0 ∙ sym closed;
          exclusive = m.exclusive ∙ ap (λ (o : Occupancy). o.exclusive) flag.1 ∙ sym (with_at-same w.alone c true);
        };
      } in (
        x,
        at,
        may,
        occupying tag_in bits w x (Claimed h) true al d d b a h weight k k' s x_in
            (record {
              mine = mine;
              views = refl;
              occ = λ j _ n. with_at-other b.occ c0 new j (λ e. n (e ∙ sym core));
              mark = λ y _. refl;
              home = λ y _. refl;
              name = λ q _. refl;
              phase = λ y n. refl;
              carried = λ y n. with-else g x y k.carried refl n;
              given = refl;
              ended = refl;
              alone = λ j _ n. with_at-other w.alone c true j n;
              beside = λ y y_in n ny. elim (cases_eq (core_of w y) c) [
                | inl e ↦ absurd (true≢false (sym ((s.owned.occupied y y_in).1 ny) ∙ ap (λ (j : ℕ). w.occupied (record { core = j; index = (w.at y).index })) (e ∙ core) ∙ none (w.at y).index))
                | inr e ↦ with_at-other w.alone c true (core_of w y) e
              ];
            })
            (keeps_owned_once w (event.Alone h x) s.owned may)
            (subst (ShowsWord v c) (sym (ap (with_at b.occ c0 new) core ∙ with_at-same b.occ c0 new)) word_here)
            (record {
              within = old.within;
              coherent = subst (λ (t : State). Coherent t (w.at x) (d x)) (sym now) (λ _. rest.2);
              mark = old.mark ∙ ap (λ (r : Marked). mark_word bits (record r { place = (d x).shown })) (before ∙ sym here);
              named = old.named;
              value = λ e. subst (λ (t : State). HasValue tag_in t (b.home x)) (sym now) (subst (λ (t : State). HasValue tag_in t (b.home x)) is_free (old.value e));
            })
            (with-at g x k.carried refl ∙ ap (λ (r : Carried). r ∷ []) same ∙ sym (ap (λ (t : State). carried_if t h (carried_of v d x)) now ∙ mine-claimed h (carried_of v d x)))
            (λ j n. ap (λ (t : State). carried_if t j (carried_of w d x)) is_free ∙ sym (not-claimed h j (carried_of v d x) n) ∙ sym (ap (λ (t : State). carried_if t j (carried_of v d x)) now)),
      )
