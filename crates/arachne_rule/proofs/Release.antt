-- A release.
use Rattle.std.proofs.Common.{◌%◌, ◌≡◌, ℕ, ◌+◌, ◌-◌, ◌<◌, ◌≤◌, ◌^◌, Bool, true, false, if◌then◌else◌, ◌&&◌, List, ◌∷◌, refl, sym, ap, ◌∙◌, subst, arith, inl, inr, IsTrue, set, get_or, get_or-set_other, []}
use Rattle.std.proofs.lemmas.Bool.{cases_eq, false_from_ne_true}
use mathlib.Core.Option as opt
use lib.ListN.{get_elem?}
use Rattle.arachne_core.specs.declared.{layout.TheConstants.MASK_BITS, place.Place.Place, state.State.State}
use Rattle.arachne_core.specs.{declared.state.State.TheVariants.{Free, Claimed}, Marked.mark_word, OwnedOnce.OwnedOnce}
use Rattle.arachne_core.specs.Occupancy.{bit, Occupancy, occupancy_of, IsOccupancyWord, HasOneMore}
use Rattle.arachne_core.specs.World.{World, IsContext, core_of, with_at, with_place, Allowed, after}
use Rattle.arachne_core.{specs.ContextTable.{mark_of, is_live_state}, proofs.KeepsOwnedOnce.keeps_owned_once}
use Rattle.arachne_core.proofs.Changes.{with_at-same, with_at-other, with_place-same, with_place-other}
use Rattle.arachne_core.proofs.OccupancyWords.{one_less, mask_of-clear, count_of-clear, has_one_less, not_exclusive}
use Rattle.arachne_core.specs.declared.event.Event.TheVariants as event
use Rattle.arachne_weights.specs.Tokens.{held}
use Rattle.arachne_rule.specs.{declared.view.{Carried.Carried, Known.Known}, Changes.{index_sum, release_sum}}
use Rattle.arachne_rule.{specs.Views.{carried_at, without, without_context}, proofs.Shares.my-share}
use Rattle.arachne_rule.specs.Rule.{Coherent, carried_if, carried_of, HasValue, Board, Phase, ShowsWord, Shows}
use Rattle.arachne_rule.proofs.{Carrying.{without-at, without-else}, Marking.{claimed-carried, not-claimed}}
use Rattle.arachne_rule.proofs.Occupying.{occupying_world, occupying}

pub not-free : (s : State) (h : ℕ) → s ≡ Claimed h → s ≡ Free → ⊥
not-free s h e f = cc

-- two contexts on an exclusive core, neither of which is free, are the same
pub alone-apart : (w : World) → OwnedOnce w → (x y : ℕ) → IsContext w x → IsContext w y → (w.state x ≡ Free → ⊥) → (w.state y ≡ Free → ⊥) → core_of w y ≡ core_of w x → w.alone (core_of w x) ≡ true → y ≡ x
alone-apart w o x y x_in y_in nx ny same al =
    let one = o.alone (core_of w x) (o.placed x x_in).0 al in
    let ix = one.3 (w.at x).index (o.placed x x_in).1 ((o.occupied x x_in).1 nx) in
    let there : (record { core = core_of w x; index = (w.at y).index }) ≡ w.at y = λ i. record { core = sym same i; index = (w.at y).index } in
    let iy = one.3 (w.at y).index (o.placed y y_in).1 (subst (λ (p : Place). IsTrue (w.occupied p)) (sym there) ((o.occupied y y_in).1 ny)) in
    o.apart y x y_in x_in (λ i. record { core = same i; index = (iy ∙ sym ix) i })

-- the word with one index less; the exclusive bit may have been cleared before
pub one-less-shows : (w : World) (x word i : ℕ) (st : State) (al : ℕ → Bool) → IsOccupancyWord word
    → ((j : ℕ) → get_or (occupancy_of word).occupied j false ≡ w.occupied (record { core = core_of w x; index = j }))
    → (occupancy_of word).closed ≡ w.closed (core_of w x) → (occupancy_of word).exclusive ≡ al (core_of w x)
    → (w.at x).index ≡ i → i < MASK_BITS → get_or (occupancy_of word).occupied i false ≡ true
    → ShowsWord (occupying_world w x st false al) (core_of w x) (word - (2 ^ i + 2 ^ MASK_BITS))
one-less-shows w x word i st al packed occupied closed exclusive at_i i_in full =
    let less : ℕ = word - (2 ^ i + 2 ^ MASK_BITS) in
    let m : HasOneMore less i word = has_one_less word i packed i_in full in
    let c : ℕ = core_of w x in
    record {
      packed = m.old_word;
      shows = record {
        occupied = λ j. elim (cases_eq j i) [
          | inl f ↦ ap (λ (n : ℕ). get_or (occupancy_of less).occupied n false) f ∙ m.was_free
              ∙ sym (with_place-same w.occupied (w.at x) false)
              ∙ ap (λ (n : ℕ). with_place w.occupied (w.at x) false (record { core = c; index = n })) (at_i ∙ sym f)
          | inr n ↦ sym (get_or-set_other (occupancy_of less).occupied i j true false n) ∙ ap (λ (bs : List Bool). get_or bs j false) (sym m.occupied) ∙ occupied j
              ∙ sym (with_place-other w.occupied (w.at x) false (record { core = c; index = j }) (λ f. n (ap (λ (p : Place). p.index) f ∙ at_i)))
        ];
        closed = sym m.closed ∙ closed;
        exclusive = sym m.exclusive ∙ exclusive;
      };
    }

-- the word of a core, less the number that a release subtracts
abbrev pub less_by : Carried → ℕ → ℕ
less_by g word = (if g.alone then word - 2 ^ 63 else word) - (2 ^ g.place.index + 2 ^ MASK_BITS)

module _ {T : Type 0} (tag_in : T → ℕ) (bits : ℕ) (w : World) (d : ℕ → Phase) (b : Board T) (s : Shows tag_in bits w d b)
    (h weight : ℕ) (k : Known) (mine : get_elem? b.views h ≡ opt.some (held weight k)) where
  less-here : (q : Bool) (x : ℕ) (st : State) → IsContext w x → w.alone (core_of w x) ≡ q → (w.state x ≡ Free → ⊥)
      → ShowsWord (occupying_world w x st false (with_at w.alone (core_of w x) false)) (core_of w x) ((if q then b.occ (core_of w x) - 2 ^ 63 else b.occ (core_of w x)) - (2 ^ (w.at x).index + 2 ^ MASK_BITS))
  less-here true x st x_in al n =
      let c : ℕ = core_of w x in
      let old = s.cores c (s.owned.placed x x_in).0 in
      let m = not_exclusive (b.occ c) old.packed (old.shows.exclusive ∙ al) in
      one-less-shows w x (b.occ c - 2 ^ 63) (w.at x).index st (with_at w.alone c false) m.0
      (λ j. ap (λ (o : Occupancy). get_or o.occupied j false) m.1 ∙ old.shows.occupied j)
      (ap (λ (o : Occupancy). o.closed) m.1 ∙ old.shows.closed)
      (ap (λ (o : Occupancy). o.exclusive) m.1 ∙ sym (with_at-same w.alone c false))
      refl (omega (arith, (s.owned.placed x x_in).1, s.fits.1))
      (ap (λ (o : Occupancy). get_or o.occupied (w.at x).index false) m.1 ∙ old.shows.occupied (w.at x).index ∙ (s.owned.occupied x x_in).1 n)
  less-here false x st x_in al n =
      let c : ℕ = core_of w x in
      let old = s.cores c (s.owned.placed x x_in).0 in
      one-less-shows w x (b.occ c) (w.at x).index st (with_at w.alone c false) old.packed
      old.shows.occupied old.shows.closed
      (old.shows.exclusive ∙ al ∙ sym (with_at-same w.alone c false))
      refl (omega (arith, (s.owned.placed x x_in).1, s.fits.1))
      (old.shows.occupied (w.at x).index ∙ (s.owned.occupied x x_in).1 n)

  pub release : (x : ℕ) (g : Carried) → IsContext w x → carried_at x k.carried ≡ g ∷ [] → g.context ≡ x → g.held ≡ false → g.named ≡ true → g.away ≡ false
      → Allowed w (event.Release h x)
      × Shows tag_in bits (after w (event.Release h x)) d (record b {
        occ = with_at b.occ g.place.core (less_by g (b.occ g.place.core));
        views = set b.views h (held weight (without_context k g));
      })
  release x g x_in got same free named home =
      let is = claimed-carried (w.state x) h (carried_of w d x) g (λ q t. refl) (my-share tag_in bits w d b s h weight k mine x g x_in got) free in
      let claimed : w.state x ≡ Claimed h = is.0 in
      let place : g.place ≡ w.at x = ap (λ (r : Carried). r.place) is.1 in
      let alone : g.alone ≡ w.alone (core_of w x) = ap (λ (r : Carried). r.alone) is.1 in
      let c : ℕ = core_of w x in
      let core : c ≡ g.place.core = ap (λ (p : Place). p.core) (sym place) in
      let n : w.state x ≡ Free → ⊥ = not-free (w.state x) h claimed in
      let may : Allowed w (event.Release h x) = record { context = x_in; claimed = claimed } in
      let v : World = after w (event.Release h x) in
      let k' : Known = without_context k g in
      let a : Board T = record b { occ = with_at b.occ g.place.core (less_by g (b.occ g.place.core)); views = set b.views h (held weight k') } in
      let old = s.contexts x x_in in
      let has_name : (d x).named ≡ true = sym (ap (λ (r : Carried). r.named) is.1) ∙ named in
      let at_home : (d x).away ≡ false = sym (ap (λ (r : Carried). r.away) is.1) ∙ home in
      let shown : (d x).shown ≡ w.at x = subst (λ (t : State). Coherent t (w.at x) (d x)) claimed old.coherent has_name in
      let now : v.state x ≡ Free = with_at-same w.state x Free in
      let here_word : a.occ c ≡ (if w.alone c then b.occ c - 2 ^ 63 else b.occ c) - (2 ^ (w.at x).index + 2 ^ MASK_BITS) =
      ap a.occ core ∙ with_at-same b.occ g.place.core (less_by g (b.occ g.place.core))
      ∙ (λ i. (if alone i then b.occ (place i).core - 2 ^ 63 else b.occ (place i).core) - (2 ^ (place i).index + 2 ^ MASK_BITS)) in (
        may,
        occupying tag_in bits w x Free false (with_at w.alone c false) d d b a h weight k k' s x_in
            (record {
              mine = mine;
              views = refl;
              occ = λ j _ m. with_at-other b.occ g.place.core _ j (λ f. m (f ∙ sym core));
              mark = λ y _. refl;
              home = λ y _. refl;
              name = λ p _. refl;
              phase = λ y m. refl;
              carried = λ y m. without-else g.context y k.carried (λ f. m (f ∙ same));
              given = refl;
              ended = refl;
              alone = λ j _ m. with_at-other w.alone c false j m;
              beside = λ y y_in m ny. elim (cases_eq (core_of w y) c) [
                | inl f ↦ ap (with_at w.alone c false) f ∙ with_at-same w.alone c false
                    ∙ sym (ap w.alone f ∙ false_from_ne_true (w.alone c) (λ al. m (alone-apart w s.owned x y x_in y_in n ny f al)))
                | inr f ↦ with_at-other w.alone c false (core_of w y) f
              ];
            })
            (keeps_owned_once w (event.Release h x) s.owned may)
            (subst (ShowsWord v c) (sym here_word) (less-here (w.alone c) x Free x_in refl n))
            (record {
              within = old.within;
              coherent = subst (λ (t : State). Coherent t (w.at x) (d x)) (sym now) (at_home, has_name, shown);
              mark = old.mark ∙ ap (mark_word bits) ((λ i. record { mark = mark_of (claimed i); alone = is_live_state (claimed i) && w.alone c; place = (d x).shown; generation = w.generation x })
                  ∙ sym (λ i. record { mark = mark_of (now i); alone = is_live_state (now i) && with_at w.alone c false c; place = (d x).shown; generation = w.generation x }));
              named = old.named;
              value = λ f. subst (λ (t : State). HasValue tag_in t (b.home x)) (sym now) (subst (λ (t : State). HasValue tag_in t (b.home x)) claimed (old.value f));
            })
            (ap (λ (y : ℕ). carried_at y (without g.context k.carried)) (sym same) ∙ without-at g.context k.carried ∙ sym (ap (λ (t : State). carried_if t h (carried_of v d x)) now))
            (λ j m. ap (λ (t : State). carried_if t j (carried_of w d x)) claimed ∙ not-claimed h j (carried_of w d x) m ∙ sym (ap (λ (t : State). carried_if t j (carried_of v d x)) now)),
      )

module _ {T : Type 0} (tag_in : T → ℕ) (bits : ℕ) (w : World) (d : ℕ → Phase) (b : Board T) (s : Shows tag_in bits w d b)
    (h weight : ℕ) (k : Known) (mine : get_elem? b.views h ≡ opt.some (held weight k)) where
  by-sum : (q : Bool) (word i : ℕ) → (if q then word - 2 ^ 63 else word) - index_sum i ≡ word - (if q then 2 ^ 63 + index_sum i else index_sum i)
  by-sum true word i = omega arith
  by-sum false word i = refl

  -- the same, subtracted at once
  pub released : (c : Carried) → IsContext w c.context → carried_at c.context k.carried ≡ c ∷ [] → c.held ≡ false → c.named ≡ true → c.away ≡ false
      → Allowed w (event.Release h c.context)
      × Shows tag_in bits (after w (event.Release h c.context)) d (record b {
        occ = with_at b.occ c.place.core (b.occ c.place.core - release_sum c);
        views = set b.views h (held weight (without_context k c));
      })
  released c c_in has free named home =
      let r = release tag_in bits w d b s h weight k mine c.context c c_in has refl free named home in (
        r.0,
        subst (λ (m : ℕ). Shows tag_in bits (after w (event.Release h c.context)) d (record b { occ = with_at b.occ c.place.core m; views = set b.views h (held weight (without_context k c)) }))
            (by-sum c.alone (b.occ c.place.core) c.place.index) r.1,
      )

-- the number that a release subtracts is in the word
pub holds-index : (w i : ℕ) → IsOccupancyWord w → get_or (occupancy_of w).occupied i false ≡ true → 2 ^ i + 2 ^ MASK_BITS ≤ w
holds-index w i packed full = omega (arith, one_less (occupancy_of w) i full, packed)

pub holds-flag : (w i : ℕ) → IsOccupancyWord w → get_or (occupancy_of w).occupied i false ≡ true → (occupancy_of w).exclusive ≡ true → 2 ^ 63 + (2 ^ i + 2 ^ MASK_BITS) ≤ w
holds-flag w i packed full flag =
    let c : Occupancy = occupancy_of w in
    omega (arith, mask_of-clear c.occupied i full, count_of-clear c.occupied i full, packed, ap bit flag)

-- the word after a fetch_sub of it
pub wraps : (w less : ℕ) → w < 2 ^ 64 → less ≤ w → (w + (2 ^ 64 - less)) % 2 ^ 64 ≡ w - less
wraps w less w_in fits = omega (arith, w_in, fits)
