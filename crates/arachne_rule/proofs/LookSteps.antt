-- The conditions of the table for loads, and for a load that takes a slot.
use Rattle.std.proofs.Common.{None, ◌≡◌, ℕ, ◌*◌, ◌^◌, ◌<◌, ◌≤◌, true, false, List, ◌∷◌, length-set, refl, sym, ap, ◌∙◌, subst, arith, inl, inr, set, get_or, Option}
use mathlib.Core.Option.{some, none}
use mathlib.Core.Option as opt
use Rattle.atomic_table.specs.Table.{Act, State, keeps, takes, step, Allows}
use Rattle.arachne_core.specs.declared.{layout.TheConstants.{MASK_BITS, SLOTS}, place.Place.Place}
use Rattle.arachne_core.specs.Marked.{Marked, mark_word, marked_of, IsMarkWord}
use Rattle.arachne_core.specs.{World.{World, IsContext, IsPlace, with_at}, ContextTable.marked}
use Rattle.arachne_core.proofs.{MarkWords.marked_of-mark_word, Changes.cases_place}
use Rattle.arachne_core.specs.declared.event.Event.TheVariants as event
use Rattle.arachne_weights.specs.{declared.token.Token.Token, Tokens.held}
use Rattle.arachne_rule.{specs.Plays.{Carries, IsLive, LooksCore, LooksMark, LearnsName, TakesSlot}, proofs.Slots.learn}
use Rattle.arachne_rule.{proofs.OwnWords.{says-carried, says-gone, same-at-place, placed-in}, specs.Table.{Mine, Holds}}
use Rattle.arachne_rule.specs.{Layout.{contexts_in, occ_index, name_index, board_of}, declared.view.Carried.Carried}
use Rattle.arachne_rule.proofs.{Naming.{with_name-same, with_name-other}, Stepping.{sees, name-made, for-seat}}
use Rattle.arachne_rule.{proofs.Boards.{IsIn, home-set, name-apart}, specs.declared.view.{Known.Known, Shape.Shape}}
use Rattle.arachne_rule.specs.{Views.{with_context, noted}, Rule.{Board, Phase, Shows}, Changes.with_name}
use Rattle.arachne_rule.specs.declared.view.Kind.TheVariants as kind

-- a place word that is written with the same number
same-names : {T : Type 0} (tag_in : T → ℕ) (bits : ℕ) (w : World) (d : ℕ → Phase) (b : Board T) → Shows tag_in bits w d b → (p : Place) → Shows tag_in bits w d (record b { name = with_name b.name p (b.name p) })
same-names tag_in bits w d b s p =
    let f : (q : Place) → with_name b.name p (b.name p) q ≡ b.name q = λ q. elim (cases_place q p) [
      | inl e ↦ ap (with_name b.name p (b.name p)) e ∙ with_name-same b.name p (b.name p) ∙ sym (ap b.name e)
      | inr n ↦ with_name-other b.name p (b.name p) q n
    ] in
    record {
      owned = s.owned;
      fits = s.fits;
      beyond = s.beyond;
      cores = s.cores;
      contexts = λ x x_in. let o = s.contexts x x_in in record { within = o.within; coherent = o.coherent; mark = o.mark; named = λ e. f (w.at x) ∙ o.named e; value = o.value };
      names = λ q q_in. subst (IsContext w) (sym (f q)) (s.names q q_in);
      carried = s.carried;
      seats = s.seats;
      given = s.given;
      ended = s.ended;
    }

module _ {T : Type 0} (tag_in : T → ℕ) (bits : ℕ) (shape : Shape) where
  -- ---- an occupancy word

  looks-core : (id weight : ℕ) (k : Known) (l : List (ℕ × Option T)) (c : ℕ) → c < shape.cores
      → Allows (Holds tag_in bits shape) (contexts_in shape) id (held weight k, l) (occ_index (contexts_in shape) c) (λ m. m)
      (LooksCore (step (contexts_in shape) (occ_index (contexts_in shape) c) 0 0 none) (held weight k, l))
  looks-core id weight k l c c_in s hs long mine small =
      let i : ℕ = occ_index (contexts_in shape) c in (
        held weight (noted kind.Look i (get_or s.words i 0) (get_or s.words i 0) k),
        keeps,
        tt,
        sees tag_in bits shape s hs id weight k mine kind.Look i l (inr (refl, refl)),
        ((hs.shows.cores c (omega (arith, c_in, hs.fits.cores))).packed, refl),
      )

  pub look-core-allowed : (slots id : ℕ) (me : Mine T) (c i : ℕ) → slots ≡ contexts_in shape → IsLive me → i ≡ occ_index slots c → c < shape.cores
      → Allows (Holds tag_in bits shape) slots id me i (λ m. m) (LooksCore (step slots i 0 0 none) me)
  look-core-allowed slots id me c i laid live there c_in =
      for-seat (λ m j e. Allows (Holds tag_in bits shape) m id e j (λ q. q) (LooksCore (step m j 0 0 none) e)) slots i (contexts_in shape) (occ_index (contexts_in shape) c) me
      laid (there ∙ ap (λ (m : ℕ). occ_index m c) laid) live (looks-core id me.0.weight me.0.known me.1 c c_in)

  -- ---- a mark word

  -- the mark word of a context is one
  pub mark-packed : (s : State (Option T) (Token Known)) → Holds tag_in bits shape s → (x : ℕ) → x < contexts_in shape → get_or s.words x 0 < 2 ^ 64 → IsMarkWord bits (get_or s.words x 0)
  mark-packed s hs x x_in small =
      let w : World = hs.world in
      let c = hs.shows.contexts x (subst (λ (m : ℕ). x < m) (λ j. sym hs.fits.cores j * sym hs.fits.slots j) x_in) in
      let m : Marked = record (marked w x) { place = (hs.phase x).shown } in
      let index_in : m.place.index < MASK_BITS = omega (arith, c.within.1, hs.shows.fits.1) in
      let reads : marked_of bits (mark_word bits m) ≡ m = marked_of-mark_word bits m (omega (arith, index_in)) (omega (arith, c.within.0, hs.shows.fits.0)) in (
        ap (λ (q : ℕ). mark_word bits (marked_of bits q)) c.mark ∙ ap (mark_word bits) reads ∙ sym c.mark,
        subst (λ (q : ℕ). (marked_of bits q).place.index < MASK_BITS) (sym c.mark) (subst (λ (q : Marked). q.place.index < MASK_BITS) (sym reads) index_in),
        small,
      )

  looks-mark : (id weight : ℕ) (k : Known) (l : List (ℕ × Option T)) (x : ℕ) → x < contexts_in shape
      → Allows (Holds tag_in bits shape) (contexts_in shape) id (held weight k, l) x (λ m. m)
      (LooksMark bits (step (contexts_in shape) x 0 0 none) (held weight k, l))
  looks-mark id weight k l x x_in s hs long mine small =
      let w : World = hs.world in
      let x_is : IsContext w x = subst (λ (m : ℕ). x < m) (λ j. sym hs.fits.cores j * sym hs.fits.slots j) x_in in (
        held weight (noted kind.Look x (get_or s.words x 0) (get_or s.words x 0) k),
        keeps,
        tt,
        sees tag_in bits shape s hs id weight k mine kind.Look x l (inr (refl, refl)),
        (
          mark-packed s hs x x_in small,
          refl,
          (λ c same has. says-carried tag_in bits w hs.phase (board_of (contexts_in shape) s) hs.shows id weight k mine x c x_is same has),
          (λ t same has. says-gone tag_in bits w hs.phase (board_of (contexts_in shape) s) hs.shows id weight k mine x t x_is same has),
        ),
      )

  pub look-mark-allowed : (slots id : ℕ) (me : Mine T) (x : ℕ) → slots ≡ contexts_in shape → IsLive me → x < slots
      → Allows (Holds tag_in bits shape) slots id me x (λ m. m) (LooksMark bits (step slots x 0 0 none) me)
  look-mark-allowed slots id me x laid live x_in =
      for-seat (λ m j e. Allows (Holds tag_in bits shape) m id e j (λ q. q) (LooksMark bits (step m j 0 0 none) e)) slots x (contexts_in shape) x me
      laid refl live (looks-mark id me.0.weight me.0.known me.1 x (subst (λ (m : ℕ). x < m) laid x_in))

  -- ---- a place word

  learns-name : (id weight : ℕ) (k : Known) (l : List (ℕ × Option T)) (p : Place) → IsIn shape p
      → Allows (Holds tag_in bits shape) (contexts_in shape) id (held weight k, l) (name_index (contexts_in shape) p) (λ m. m)
      (LearnsName (step (contexts_in shape) (name_index (contexts_in shape) p) 0 0 none) (held weight k, l))
  learns-name id weight k l p p_in s hs long mine small =
      let w : World = hs.world in
      let n : ℕ = contexts_in shape in
      let i : ℕ = name_index n p in
      let p_is : IsPlace w p = (omega (arith, p_in.0, hs.fits.cores), omega (arith, p_in.1, hs.fits.slots)) in
      let few : shape.places_per_core ≤ SLOTS = subst (λ (m : ℕ). m ≤ SLOTS) hs.fits.slots hs.shows.fits.1 in (
        held weight (noted kind.Learn i (get_or s.words i 0) (get_or s.words i 0) k),
        keeps,
        tt,
        sees tag_in bits shape s hs id weight k mine kind.Learn i l (inr (refl, refl)),
        (
          subst (λ (m : ℕ). get_or s.words i 0 < m) (λ j. hs.fits.cores j * hs.fits.slots j) (hs.shows.names p p_is),
          refl,
          (λ c c_in has named at.
              let c_is : IsContext w c.context = subst (λ (m : ℕ). c.context < m) (λ j. sym hs.fits.cores j * sym hs.fits.slots j) c_in in
              let in_place = placed-in tag_in bits w hs.phase (board_of n s) hs.shows id weight k mine c c_is has in
              let same : p ≡ c.place = name-apart n p c.place (omega (arith, p_in.1, few)) (omega (arith, in_place.0.1, hs.shows.fits.1)) at in
              ap (λ (q : Place). get_or s.words (name_index n q) 0) same ∙ in_place.1 named),
        ),
      )

  pub learn-allowed : (slots id : ℕ) (me : Mine T) (p : Place) (i : ℕ) → slots ≡ contexts_in shape → IsLive me → i ≡ name_index slots p → p.core < shape.cores → p.index < shape.places_per_core
      → Allows (Holds tag_in bits shape) slots id me i (λ m. m) (LearnsName (step slots i 0 0 none) me)
  learn-allowed slots id me p i laid live there c_in i_in =
      for-seat (λ m j e. Allows (Holds tag_in bits shape) m id e j (λ q. q) (LearnsName (step m j 0 0 none) e)) slots i (contexts_in shape) (name_index (contexts_in shape) p) me
      laid (there ∙ ap (λ (m : ℕ). name_index m p) laid) live (learns-name id me.0.weight me.0.known me.1 p (c_in, i_in))

  takes-slot : (id weight : ℕ) (k : Known) (l : List (ℕ × Option T)) (c : Carried) → c.context < contexts_in shape → Carries k c → c.named ≡ true → c.away ≡ false
      → Allows (Holds tag_in bits shape) (contexts_in shape) id (held weight k, l) (name_index (contexts_in shape) c.place) (λ m. m)
      (TakesSlot (step (contexts_in shape) (name_index (contexts_in shape) c.place) 0 0 none) (held weight k, l))
  takes-slot id weight k l c c_in has named home s hs long mine small =
      let w : World = hs.world in
      let n : ℕ = contexts_in shape in
      let i : ℕ = name_index n c.place in
      let x : ℕ = c.context in
      let b : Board T = board_of n s in
      let c_is : IsContext w x = subst (λ (m : ℕ). x < m) (λ j. sym hs.fits.cores j * sym hs.fits.slots j) c_in in
      let in_place = placed-in tag_in bits w hs.phase b hs.shows id weight k mine c c_is has in
      let r = learn tag_in bits w hs.phase b hs.shows id weight k mine x c c_is has refl home in
      let found : get_or s.words i 0 ≡ x = r.1 named in
      let k' : Known = with_context k (record c { away = true }) in
      let act : Act (Option T) = takes x None in
      let p_in : IsIn shape c.place = (omega (arith, in_place.0.0, hs.fits.cores), omega (arith, in_place.0.1, hs.fits.slots)) in (
        held weight (noted kind.Learn i (get_or s.words i 0) (get_or s.words i 0) k'),
        act,
        r.0,
        name-made tag_in bits shape s hs id weight k mine kind.Learn c.place (b.name c.place) l act event.Still (with_at hs.phase x (record (hs.phase x) { away = true })) k' (with_at b.home x (opt.some opt.none))
            p_in refl tt (inr (refl, refl)) (length-set s.homes x opt.none) (λ y _. home-set s.homes x opt.none (omega (arith, c_in, hs.fits.homes)) y)
            (same-names tag_in bits w (with_at hs.phase x (record (hs.phase x) { away = true })) (record b { home = with_at b.home x (opt.some opt.none); views = set s.views id (held weight k') }) r.2 c.place),
        λ f f_in f_has f_named f_home at.
            let f_is : IsContext w f.context = subst (λ (m : ℕ). f.context < m) (λ j. sym hs.fits.cores j * sym hs.fits.slots j) f_in in
            let f_place = placed-in tag_in bits w hs.phase b hs.shows id weight k mine f f_is f_has in
            let same : c.place ≡ f.place = name-apart n c.place f.place (omega (arith, in_place.0.1, hs.shows.fits.1)) (omega (arith, f_place.0.1, hs.shows.fits.1)) at in
            let is : c ≡ f = same-at-place tag_in bits w hs.phase b hs.shows id weight k mine c f c_is f_is has f_has same in (
              found ∙ ap (λ (u : Carried). u.context) is,
              λ j. (held weight (noted kind.Learn i (get_or s.words i 0) (get_or s.words i 0) (with_context k (record (is j) { away = true }))), ((is j).context, None) ∷ l),
            ),
      )

  pub take-slot-allowed : (slots id : ℕ) (me : Mine T) (c : Carried) (i : ℕ) → slots ≡ contexts_in shape → IsLive me → i ≡ name_index slots c.place → c.context < slots
      → Carries me.0.known c → c.named ≡ true → c.away ≡ false
      → Allows (Holds tag_in bits shape) slots id me i (λ m. m) (TakesSlot (step slots i 0 0 none) me)
  take-slot-allowed slots id me c i laid live there c_in has named home =
      for-seat (λ m j e. Allows (Holds tag_in bits shape) m id e j (λ q. q) (TakesSlot (step m j 0 0 none) e)) slots i (contexts_in shape) (name_index (contexts_in shape) c.place) me
      laid (there ∙ ap (λ (m : ℕ). name_index m c.place) laid) live (takes-slot id me.0.weight me.0.known me.1 c (subst (λ (m : ℕ). c.context < m) laid c_in) has named home)
