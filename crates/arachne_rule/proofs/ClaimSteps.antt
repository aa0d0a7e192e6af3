-- The conditions of the table for a claim, a claim of a whole core, and a release.
use Rattle.std.proofs.Common.{◌≡◌, ℕ, zero, suc, ◌+◌, ◌-◌, ◌*◌, ◌%◌, ◌<◌, ◌≤◌, ◌^◌, Bool, true, false, if◌then◌else◌, List, length, refl, sym, ap, ◌∙◌, subst, arith, inl, inr, set, get_or, Option, eqb, pow_pos}
use Rattle.std.proofs.{lemmas.Bool.cases_order, Math.Nat.pow-suc}
use mathlib.Core.Option.{none}
use prog.Atomic.{either}
use Rattle.atomic_table.{specs.Table.{Act, keeps, step, stepped, Allows, Valid, carried_after}, proofs.Lists.exchanged}
use Rattle.arachne_core.specs.declared.{layout.TheConstants.MASK_BITS, place.Place.Place}
use Rattle.arachne_core.specs.Occupancy.{Occupancy, occupancy_of, occupancy_word, IsOccupancyWord}
use Rattle.arachne_core.proofs.OccupancyWords.{one_more, length-flags, occupancy_word-of}
use Rattle.arachne_core.specs.World.{World, IsContext, IsPlace, with_at, after, core_of}
use Rattle.arachne_core.specs.declared.event.Event.TheVariants as event
use Rattle.arachne_weights.specs.{declared.token.Token.Token, Tokens.held}
use Rattle.arachne_rule.specs.{declared.view.{Carried.Carried, Known.Known, Shape.Shape}, Table.{Mine, Holds}}
use Rattle.arachne_rule.specs.{Views.{with_context, without_context, noted}, Rule.{carried_of, Board, Shows}}
use Rattle.arachne_rule.{specs.Changes.{claimed_context, alone_context, index_sum, release_sum}, proofs.Shares.my-share}
use Rattle.arachne_rule.{specs.Layout.{contexts_in, occ_index, board_of}, proofs.{Marking.claimed-carried, Claim.claim}}
use Rattle.arachne_rule.{specs.Plays.{Carries, IsLive, Claims, ClaimsAlone, Releases}, proofs.Slots.carried-says}
use Rattle.arachne_rule.proofs.{Alone.claim_alone, Release.{release, less_by, wraps, holds-index, holds-flag, not-free}}
use Rattle.arachne_rule.proofs.{Stepping.{sees, core-made, for-seat}, OwnWords.{same-at-place, not-mine, free-nobody}}
use Rattle.arachne_rule.specs.declared.view.Kind.TheVariants as kind

pow-lt : (i j : ℕ) → 2 ^ i < 2 ^ (i + suc j)
pow-lt i zero = let a : 2 ^ (i + 1) ≡ 2 ^ suc i = ap (λ (n : ℕ). 2 ^ n) (omega arith) in omega (arith, a, pow-suc 2 i, pow_pos i)
pow-lt i (suc j) = let a : 2 ^ (i + suc (suc j)) ≡ 2 ^ suc (i + suc j) = ap (λ (n : ℕ). 2 ^ n) (omega arith) in omega (arith, a, pow-suc 2 (i + suc j), pow-lt i j)

pow-apart : (i j : ℕ) → i < j → 2 ^ i ≡ 2 ^ j → ⊥
pow-apart i j h e = let a : i + suc (j - suc i) ≡ j = omega (arith, h) in let b = ap (λ (n : ℕ). 2 ^ n) a in omega (arith, pow-lt i (j - suc i), b, e)

pow-injective : (i j : ℕ) → 2 ^ i ≡ 2 ^ j → i ≡ j
pow-injective i j e = elim (cases_order i j) [
  | inl f ↦ f
  | inr o ↦ elim o [
    | inl h ↦ absurd (pow-apart i j h e)
    | inr h ↦ absurd (pow-apart j i h (sym e))
  ]
]

same-place : (p q : Place) → p.core ≡ q.core → p.index ≡ q.index → p ≡ q
same-place p q e f = λ i. record { core = e i; index = f i }

-- the word that `with_bit` makes is the sum
pub with-bit : (old new i : ℕ) (o q : Occupancy) → old ≡ occupancy_word o → occupancy_of old ≡ o → q ≡ record o { occupied = set o.occupied i true } → new ≡ occupancy_word q → i < MASK_BITS
    → get_or o.occupied i false ≡ false → new ≡ old + index_sum i
with-bit old new i o q packed read set_is new_is i_in free =
    new_is ∙ ap occupancy_word set_is ∙ one_more o i (omega (arith, length-flags MASK_BITS old, ap (λ (r : Occupancy). length r.occupied) read)) free ∙ ap (λ (n : ℕ). n + index_sum i) (sym packed)

module _ {T : Type 0} (tag_in : T → ℕ) (bits : ℕ) (shape : Shape) where
  claims : (id weight : ℕ) (k : Known) (l : List (ℕ × Option T)) (p : Place) (old new : ℕ) → new ≡ old + index_sum p.index → p.core < shape.cores → p.index < shape.places_per_core
      → get_or (occupancy_of old).occupied p.index false ≡ false → (occupancy_of old).closed ≡ false → (occupancy_of old).exclusive ≡ false
      → Allows (Holds tag_in bits shape) (contexts_in shape) id (held weight k, l) (occ_index (contexts_in shape) p.core) (λ m. either (eqb m old) new m)
      (Claims (step (contexts_in shape) (occ_index (contexts_in shape) p.core) old new none) (held weight k, l))
  claims id weight k l p old new more c_in i_in vacant opened shared s hs long mine small =
      let w : World = hs.world in
      let n : ℕ = contexts_in shape in
      let i : ℕ = occ_index n p.core in
      let b : Board T = board_of n s in
      let me : Mine T = (held weight k, l) in
      let F : ℕ → Type 0 = λ (m : ℕ). (u : Token Known) × (a : Act (Option T)) × Valid s.homes l a × Holds tag_in bits shape (stepped s i m id l u a)
      × Claims (step n i old new none) me (get_or s.words i 0) (u, carried_after l a) in
      exchanged (get_or s.words i 0) old new F
      (λ hit.
      let found : b.occ p.core ≡ old = hit in
      let r = claim tag_in bits w hs.phase b hs.shows id weight k mine p (omega (arith, c_in, hs.fits.cores), omega (arith, i_in, hs.fits.slots))
      (ap (λ (m : ℕ). get_or (occupancy_of m).occupied p.index false) found ∙ vacant) (ap (λ (m : ℕ). (occupancy_of m).closed) found ∙ opened) (ap (λ (m : ℕ). (occupancy_of m).exclusive) found ∙ shared) in
      let x : ℕ = r.0 in
      let k' : Known = with_context k (claimed_context x p (w.generation x)) in
      let becomes : b.occ p.core + index_sum p.index ≡ new = ap (λ (m : ℕ). m + index_sum p.index) found ∙ sym more in
      let x_in : x < n = subst (λ (m : ℕ). x < m) (λ j. hs.fits.cores j * hs.fits.slots j) (r.2).context in (
        held weight (noted kind.Claim i (b.occ p.core) new k'),
        keeps,
        tt,
        core-made tag_in bits shape s hs id weight k mine kind.Claim p.core new l (event.Claim id x) hs.phase k' c_in refl r.2
            (inr (x, (λ j. occ_index (sym hs.fits.cores j * sym hs.fits.slots j) (sym r.1 j).core), sym becomes ∙ ap (λ (q : Place). b.occ p.core + index_sum q.index) (sym r.1), refl))
            (subst (λ (m : ℕ). Shows tag_in bits (after w (event.Claim id x)) hs.phase (record b { occ = with_at b.occ p.core m; views = set s.views id (held weight k') })) becomes r.3),
        λ q at_q is_q.
            let same : p ≡ q = same-place p q (omega (arith, at_q)) (pow-injective p.index q.index (omega (arith, is_q, more))) in
            ((λ _. (x, w.generation x, x_in, not-mine tag_in bits w hs.phase b hs.shows id weight k mine x (r.2).context (free-nobody (w.state x) (r.2).free id), λ j. (held weight (noted kind.Claim i (b.occ p.core) new (with_context k (claimed_context x (same j) (w.generation x)))), l))), (λ miss. absurd (miss hit))),
      ))
      (λ miss. (
        held weight (noted kind.Claim i (get_or s.words i 0) (get_or s.words i 0) k),
        keeps,
        tt,
        sees tag_in bits shape s hs id weight k mine kind.Claim i l (inl (tt, refl, refl)),
        λ q at_q is_q. ((λ hit. absurd (miss hit)), (λ _. refl)),
      ))

  pub claim-allowed : (slots id : ℕ) (me : Mine T) (p : Place) (i old new : ℕ) → slots ≡ contexts_in shape → IsLive me → i ≡ occ_index slots p.core → new ≡ old + index_sum p.index
      → p.core < shape.cores → p.index < shape.places_per_core
      → get_or (occupancy_of old).occupied p.index false ≡ false → (occupancy_of old).closed ≡ false → (occupancy_of old).exclusive ≡ false
      → Allows (Holds tag_in bits shape) slots id me i (λ m. either (eqb m old) new m) (Claims (step slots i old new none) me)
  claim-allowed slots id me p i old new laid live there more c_in i_in vacant opened shared =
      for-seat (λ m j e. Allows (Holds tag_in bits shape) m id e j (λ q. either (eqb q old) new q) (Claims (step m j old new none) e)) slots i (contexts_in shape) (occ_index (contexts_in shape) p.core) me
      laid (there ∙ ap (λ (m : ℕ). occ_index m p.core) laid) live (claims id me.0.weight me.0.known me.1 p old new more c_in i_in vacant opened shared)

  -- ---- a whole core

  claims-alone : (id weight : ℕ) (k : Known) (l : List (ℕ × Option T)) (c : ℕ) → c < shape.cores → 0 < shape.places_per_core
      → Allows (Holds tag_in bits shape) (contexts_in shape) id (held weight k, l) (occ_index (contexts_in shape) c) (λ m. either (eqb m 0) (2 ^ 63 + index_sum 0) m)
      (ClaimsAlone (step (contexts_in shape) (occ_index (contexts_in shape) c) 0 (2 ^ 63 + index_sum 0) none) (held weight k, l))
  claims-alone id weight k l c c_in some_slot s hs long mine small =
      let w : World = hs.world in
      let n : ℕ = contexts_in shape in
      let i : ℕ = occ_index n c in
      let b : Board T = board_of n s in
      let me : Mine T = (held weight k, l) in
      let new : ℕ = 2 ^ 63 + index_sum 0 in
      let F : ℕ → Type 0 = λ (m : ℕ). (u : Token Known) × (a : Act (Option T)) × Valid s.homes l a × Holds tag_in bits shape (stepped s i m id l u a)
      × ClaimsAlone (step n i 0 new none) me (get_or s.words i 0) (u, carried_after l a) in
      exchanged (get_or s.words i 0) 0 new F
      (λ hit.
      let r = claim_alone tag_in bits w hs.phase b hs.shows id weight k mine c (omega (arith, c_in, hs.fits.cores)) (omega (arith, some_slot, hs.fits.slots)) hit in
      let x : ℕ = r.0 in
      let k' : Known = with_context k (alone_context x c (w.generation x)) in
      let x_in : x < n = subst (λ (m : ℕ). x < m) (λ j. hs.fits.cores j * hs.fits.slots j) (r.2).context in (
        held weight (noted kind.Alone i (b.occ c) new k'),
        keeps,
        tt,
        core-made tag_in bits shape s hs id weight k mine kind.Alone c new l (event.Alone id x) hs.phase k' c_in refl r.2
            (inr (x, (λ j. occ_index (sym hs.fits.cores j * sym hs.fits.slots j) (sym r.1 j).core), hit, refl, refl))
            r.3,
        λ q at_q.
            let same : c ≡ q = omega (arith, at_q) in
            ((λ _. (x, w.generation x, x_in, not-mine tag_in bits w hs.phase b hs.shows id weight k mine x (r.2).context (free-nobody (w.state x) (r.2).free id), λ j. (held weight (noted kind.Alone i (b.occ c) new (with_context k (alone_context x (same j) (w.generation x)))), l))), (λ miss. absurd (miss hit))),
      ))
      (λ miss. (
        held weight (noted kind.Alone i (get_or s.words i 0) (get_or s.words i 0) k),
        keeps,
        tt,
        sees tag_in bits shape s hs id weight k mine kind.Alone i l (inl (tt, refl, refl)),
        λ q at_q. ((λ hit. absurd (miss hit)), (λ _. refl)),
      ))

  pub alone-allowed : (slots id : ℕ) (me : Mine T) (c i old new : ℕ) → slots ≡ contexts_in shape → IsLive me → i ≡ occ_index slots c → old ≡ 0 → new ≡ 2 ^ 63 + index_sum 0 → c < shape.cores → 0 < shape.places_per_core
      → Allows (Holds tag_in bits shape) slots id me i (λ m. either (eqb m old) new m) (ClaimsAlone (step slots i old new none) me)
  alone-allowed slots id me c i old new laid live there old_is new_is c_in some_slot =
      subst (λ (a : ℕ). Allows (Holds tag_in bits shape) slots id me i (λ m. either (eqb m a) new m) (ClaimsAlone (step slots i a new none) me)) (sym old_is)
      (subst (λ (a : ℕ). Allows (Holds tag_in bits shape) slots id me i (λ m. either (eqb m 0) a m) (ClaimsAlone (step slots i 0 a none) me)) (sym new_is)
      (for-seat (λ m j e. Allows (Holds tag_in bits shape) m id e j (λ q. either (eqb q 0) (2 ^ 63 + index_sum 0) q) (ClaimsAlone (step m j 0 (2 ^ 63 + index_sum 0) none) e)) slots i (contexts_in shape) (occ_index (contexts_in shape) c) me
      laid (there ∙ ap (λ (m : ℕ). occ_index m c) laid) live (claims-alone id me.0.weight me.0.known me.1 c c_in some_slot)))

  -- ---- a release

  less-sums : (q : Bool) (word m : ℕ) → word < 2 ^ 64 → (if q then 2 ^ 63 + m else m) ≤ word
      → (word + (2 ^ 64 - (if q then 2 ^ 63 + m else m))) % 2 ^ 64 ≡ (if q then word - 2 ^ 63 else word) - m
  less-sums true word m w_in fits = wraps word (2 ^ 63 + m) w_in fits ∙ omega arith
  less-sums false word m w_in fits = wraps word m w_in fits

  less-fits : (q : Bool) (word i : ℕ) → IsOccupancyWord word → get_or (occupancy_of word).occupied i false ≡ true → (occupancy_of word).exclusive ≡ q → (if q then 2 ^ 63 + index_sum i else index_sum i) ≤ word
  less-fits true word i packed full e = holds-flag word i packed full e
  less-fits false word i packed full e = holds-index word i packed full

  same-sum-at : (q : Bool) (i j : ℕ) → (if q then 2 ^ 63 + index_sum i else index_sum i) ≡ (if q then 2 ^ 63 + index_sum j else index_sum j) → i ≡ j
  same-sum-at true i j f = pow-injective i j (omega (arith, f))
  same-sum-at false i j f = pow-injective i j (omega (arith, f))

  same-sum : (q r : Bool) (i j : ℕ) → q ≡ r → (if q then 2 ^ 63 + index_sum i else index_sum i) ≡ (if r then 2 ^ 63 + index_sum j else index_sum j) → i ≡ j
  same-sum q r i j e f = same-sum-at q i j (f ∙ ap (λ (t : Bool). if t then 2 ^ 63 + index_sum j else index_sum j) (sym e))

  releases : (id weight : ℕ) (k : Known) (l : List (ℕ × Option T)) (c : Carried) (less : ℕ) → c.context < contexts_in shape → Carries k c → c.held ≡ false → c.named ≡ true → c.away ≡ false → less ≡ release_sum c
      → Allows (Holds tag_in bits shape) (contexts_in shape) id (held weight k, l) (occ_index (contexts_in shape) c.place.core) (λ m. (m + (2 ^ 64 - less)) % 2 ^ 64)
      (Releases (step (contexts_in shape) (occ_index (contexts_in shape) c.place.core) less 0 none) (held weight k, l))
  releases id weight k l c less c_in has free named home less_is s hs long mine small =
      let w : World = hs.world in
      let n : ℕ = contexts_in shape in
      let x : ℕ = c.context in
      let i : ℕ = occ_index n c.place.core in
      let b : Board T = board_of n s in
      let word : ℕ = b.occ c.place.core in
      let context_in : (y : ℕ) → y < n → IsContext w y = λ y y_in. subst (λ (m : ℕ). y < m) (λ j. sym hs.fits.cores j * sym hs.fits.slots j) y_in in
      let r = release tag_in bits w hs.phase b hs.shows id weight k mine x c (context_in x c_in) has refl free named home in
      let is = claimed-carried (w.state x) id (carried_of w hs.phase x) c (λ q t. refl) (my-share tag_in bits w hs.phase b hs.shows id weight k mine x c (context_in x c_in) has) free in
      let p_is : c.place ≡ w.at x = ap (λ (q : Carried). q.place) is.1 in
      let alone_is : c.alone ≡ w.alone (core_of w x) = ap (λ (q : Carried). q.alone) is.1 in
      let p_in : IsPlace w c.place = subst (IsPlace w) (sym p_is) (hs.shows.owned.placed x (context_in x c_in)) in
      let core_in : c.place.core < shape.cores = omega (arith, p_in.0, hs.fits.cores) in
      let o = hs.shows.cores c.place.core p_in.0 in
      let full = o.shows.occupied c.place.index ∙ ap w.occupied p_is ∙ (hs.shows.owned.occupied x (context_in x c_in)).1 (not-free (w.state x) id is.0) in
      let flag = o.shows.exclusive ∙ ap (λ (p : Place). w.alone p.core) p_is ∙ sym alone_is in
      let fits : less ≤ word = subst (λ (m : ℕ). m ≤ word) (sym less_is) (less-fits c.alone word c.place.index o.packed full flag) in
      let new : ℕ = (word + (2 ^ 64 - less)) % 2 ^ 64 in
      let by : new ≡ less_by c word = ap (λ (m : ℕ). (word + (2 ^ 64 - m)) % 2 ^ 64) less_is ∙ less-sums c.alone word (index_sum c.place.index) (occupancy_word-of word o.packed) (subst (λ (m : ℕ). m ≤ word) less_is fits) in
      let sub : new ≡ word - less = wraps word less (occupancy_word-of word o.packed) fits in
      let k' : Known = without_context k c in (
        held weight (noted kind.Release i word new k'),
        keeps,
        tt,
        core-made tag_in bits shape s hs id weight k mine kind.Release c.place.core new l (event.Release id x) hs.phase k' core_in refl r.0
            (inr (x, (λ j. occ_index (sym hs.fits.cores j * sym hs.fits.slots j) (p_is j).core), sub ∙ ap (λ (m : ℕ). word - m) less_is ∙ (λ j. word - (if alone_is j then 2 ^ 63 + index_sum (p_is j).index else index_sum (p_is j).index)), refl))
            (subst (λ (q : ℕ). Shows tag_in bits (after w (event.Release id x)) hs.phase (record b { occ = with_at b.occ c.place.core q; views = set s.views id (held weight k') })) (sym by) r.1),
        λ f f_in f_has at sum.
            let f_share = my-share tag_in bits w hs.phase b hs.shows id weight k mine f.context f (context_in f.context f_in) f_has in
            let f_place : f.place ≡ w.at f.context = carried-says (w.state f.context) id (carried_of w hs.phase f.context) (λ (u : Carried). u.place) f (w.at f.context) f_share (λ q t. refl) in
            let f_alone : f.alone ≡ w.alone (core_of w f.context) = carried-says (w.state f.context) id (carried_of w hs.phase f.context) (λ (u : Carried). u.alone) f (w.alone (core_of w f.context)) f_share (λ q t. refl) in
            let core : c.place.core ≡ f.place.core = omega (arith, at) in
            let flags : c.alone ≡ f.alone = alone_is ∙ ap (λ (p : Place). w.alone p.core) (sym p_is) ∙ ap w.alone core ∙ ap (λ (p : Place). w.alone p.core) f_place ∙ sym f_alone in
            let index : c.place.index ≡ f.place.index = same-sum c.alone f.alone c.place.index f.place.index flags (sym less_is ∙ sum) in
            let one : c ≡ f = same-at-place tag_in bits w hs.phase b hs.shows id weight k mine c f (context_in x c_in) (context_in f.context f_in) has f_has (same-place c.place f.place core index) in
            λ j. (held weight (noted kind.Release i word (sub j) (without_context k (one j))), l),
      )

  pub release-allowed : (slots id : ℕ) (me : Mine T) (c : Carried) (i less : ℕ) → slots ≡ contexts_in shape → IsLive me → i ≡ occ_index slots c.place.core → c.context < slots
      → Carries me.0.known c → c.held ≡ false → c.named ≡ true → c.away ≡ false → less ≡ release_sum c
      → Allows (Holds tag_in bits shape) slots id me i (λ m. (m + (2 ^ 64 - less)) % 2 ^ 64) (Releases (step slots i less 0 none) me)
  release-allowed slots id me c i less laid live there c_in has free named home less_is =
      for-seat (λ m j e. Allows (Holds tag_in bits shape) m id e j (λ q. (q + (2 ^ 64 - less)) % 2 ^ 64) (Releases (step m j less 0 none) e)) slots i (contexts_in shape) (occ_index (contexts_in shape) c.place.core) me
      laid (there ∙ ap (λ (m : ℕ). occ_index m c.place.core) laid) live (releases id me.0.weight me.0.known me.1 c less (subst (λ (m : ℕ). c.context < m) laid c_in) has free named home less_is)
