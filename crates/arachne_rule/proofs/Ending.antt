-- The table at the end: the knowledge of a whole seat that carries nothing.
use Rattle.std.proofs.Common.{◌≡◌, ℕ, zero, suc, ◌+◌, ◌*◌, ◌<◌, ◌≤◌, Bool, true, false, cond, eqb, List, [], ◌∷◌, length, refl, sym, ap, ◌∙◌, arith, inl, inr, get_or, count_by, Option, None, Some, ◌&&◌}
use Rattle.std.proofs.lemmas.Bool.{cases_eq, cond-true, cond-false, eq-eqb, ne_eqb, and_left, and_right, lt-ltb, le-ltb, cases_lt}
use Rattle.std.{proofs.lemmas.List.get_or_past, specs.declared.option.Option.TheVariants.{None, Some}}
use mathlib.Core.Option as opt
use lib.ListN.{get_elem?}
use Rattle.arachne_core.specs.{Marked.{Marked, marked_of}, OwnedOnce.{is_live, has_thread}}
use Rattle.arachne_core.specs.{World.{World, Thread, IsContext, same_thread}, declared.place.Place.Place}
use Rattle.arachne_core.specs.declared.state.State.{State, TheVariants.{Free, Claimed, Ready, Blocked, Held, Spent}}
use Rattle.arachne_weights.specs.{declared.token.Token.Token, Weight.whole, Tokens.{held, spent}}
use Rattle.arachne_weights.proofs.Tokens.{whole-alone, whole-total}
use Rattle.arachne_rule.proofs.{Carrying.known-there, Seen.seen, Views.more-threads}
use Rattle.arachne_rule.specs.{Ending.{left_from, threads_of, IsSettled}, Layout.{contexts_in, board_of}}
use Rattle.arachne_rule.specs.Rule.{Coherent, carried_if, carried_of, HasValue, Board, Phase, Shows}
use Rattle.arachne_rule.specs.{Table.{Table, Holds}, Views.{blank, known_at, carried_at}, declared.view.Carried.Carried}
use Rattle.arachne_rule.specs.declared.view.{Known.Known, Shape.Shape}

-- no seat claims or holds the context
abbrev pub IsLeft : State → Type 0
IsLeft (Claimed h) = ⊥
IsLeft (Held h w t) = ⊥
IsLeft s = Unit {0}

left : (s : State) (f : Bool → ℕ → Carried) → ((h : ℕ) → carried_if s h f ≡ []) → IsLeft s
left (Claimed k) f none = absurd (let e : f false 0 ∷ [] ≡ [] = sym (cond-true (eqb k k) (f false 0 ∷ []) [] (eq-eqb k k refl)) ∙ none k in let bad : ⊥ = cc in bad)
left (Held k w t) f none = absurd (let e : f true t ∷ [] ≡ [] = sym (cond-true (eqb k k) (f true t ∷ []) [] (eq-eqb k k refl)) ∙ none k in let bad : ⊥ = cc in bad)
left _ f none = tt

-- the tag of the value in a slot
abbrev has_tag : {T : Type 0} → (T → ℕ) → Option T → ℕ → Bool
has_tag tag_in None tag = false
has_tag tag_in (Some v) tag = eqb (tag_in v) tag

same-eqb : (a b : ℕ) → eqb a b ≡ eqb b a
same-eqb a b = elim (cases_eq a b) [
  | inl e ↦ eq-eqb a b e ∙ sym (eq-eqb b a (sym e))
  | inr n ↦ ne_eqb a b n ∙ sym (ne_eqb b a (λ e. n (sym e)))
]

other-thread : (t u : Thread) → (t.0.context ≡ u.0.context → ⊥) → same_thread t u ≡ false
other-thread t u n = and_left _ _ (and_left _ _ (ne_eqb t.0.context u.0.context n))

module _ {T : Type 0} (tag_in : T → ℕ) (bits : ℕ) (words : List ℕ) (t : Thread) where
  abbrev counted : ℕ → List (Option T) → ℕ
  counted x slots = count_by (same_thread t) (threads_of tag_in (left_from bits x words slots))

  -- a slot of another context adds nothing
  skips : (x : ℕ) (v : T) (slots : List (Option T)) → (t.0.context ≡ x → ⊥) → counted x (Some v ∷ slots) ≡ counted (suc x) slots
  skips x v slots n =
      let u : Thread = (record { context = x; generation = (marked_of bits (get_or words x 0)).generation }, tag_in v) in
      more-threads t u (threads_of tag_in (left_from bits (suc x) words slots))
      ∙ cond-false {A = ℕ} (same_thread t u) (counted (suc x) slots + 1) (counted (suc x) slots) (other-thread t u n)

  none-before : (x : ℕ) (slots : List (Option T)) → t.0.context < x → counted x slots ≡ 0
  none-before x [] l = refl
  none-before x (None ∷ slots) l = none-before (suc x) slots (omega (arith, l))
  none-before x (Some v ∷ slots) l = skips x v slots (λ e. omega (arith, e, l)) ∙ none-before (suc x) slots (omega (arith, l))

  -- a thread is left if the slot of its context has it
  count-at : (x y : ℕ) (slots : List (Option T)) (slot : Option T) → t.0.context ≡ x + y → get_elem? slots y ≡ opt.some slot
      → counted x slots ≡ cond (eqb (marked_of bits (get_or words (x + y) 0)).generation t.0.generation && has_tag tag_in slot t.1) 1 0
  count-at x y [] slot at e = absurd (opt.some-ne-none slot (sym e))
  count-at x zero (None ∷ slots) slot at e =
      none-before (suc x) slots (omega (arith, at))
      ∙ sym (cond-false {A = ℕ} (eqb (marked_of bits (get_or words (x + 0) 0)).generation t.0.generation && has_tag tag_in slot t.1) 1 0
      (and_right _ _ (ap (λ (o : Option T). has_tag tag_in o t.1) (sym (opt.some-injective None slot e)))))
  count-at x zero (Some v ∷ slots) slot at e =
      let g : ℕ = (marked_of bits (get_or words x 0)).generation in
      let u : Thread = (record { context = x; generation = g }, tag_in v) in
      let here : t.0.context ≡ x = omega (arith, at) in
      let still : x ≡ x + 0 = omega arith in
      let same : same_thread t u ≡ (eqb (marked_of bits (get_or words (x + 0) 0)).generation t.0.generation && has_tag tag_in slot t.1) =
      ap (λ (q : Bool). (q && eqb t.0.generation g) && eqb t.1 (tag_in v)) (eq-eqb t.0.context x here)
      ∙ (λ i. same-eqb t.0.generation g i && same-eqb t.1 (tag_in v) i)
      ∙ (λ i. eqb (marked_of bits (get_or words (still i) 0)).generation t.0.generation && has_tag tag_in (opt.some-injective (Some v) slot e i) t.1) in
      more-threads t u (threads_of tag_in (left_from bits (suc x) words slots))
      ∙ ap (λ (n : ℕ). cond (same_thread t u) (n + 1) n) (none-before (suc x) slots (omega (arith, at)))
      ∙ ap (λ (q : Bool). cond q 1 0) same
  count-at x (suc y) (None ∷ slots) slot at e =
      count-at (suc x) y slots slot (omega (arith, at)) e
      ∙ ap (λ (n : ℕ). cond (eqb (marked_of bits (get_or words n 0)).generation t.0.generation && has_tag tag_in slot t.1) 1 0) (omega arith)
  count-at x (suc y) (Some v ∷ slots) slot at e =
      skips x v slots (λ f. omega (arith, at, f)) ∙ count-at (suc x) y slots slot (omega (arith, at)) e
      ∙ ap (λ (n : ℕ). cond (eqb (marked_of bits (get_or words n 0)).generation t.0.generation && has_tag tag_in slot t.1) 1 0) (omega arith)

  none-past : (x : ℕ) (slots : List (Option T)) → x + length slots ≤ t.0.context → counted x slots ≡ 0
  none-past x [] l = refl
  none-past x (None ∷ slots) l = none-past (suc x) slots (omega (arith, l))
  none-past x (Some v ∷ slots) l = skips x v slots (λ e. omega (arith, e, l)) ∙ none-past (suc x) slots (omega (arith, l))

-- the content, at home, of the slot of a context that no seat carries
at-home : {T : Type 0} (tag_in : T → ℕ) (s : State) (z : opt.Option (opt.Option (Option T))) → IsLeft s → HasValue tag_in s z → (o : Option T) × (z ≡ opt.some (opt.some o)) × ((tag : ℕ) → has_thread s tag ≡ has_tag tag_in o tag)
at-home tag_in Free z l v = (None, v, λ tag. refl)
at-home tag_in (Claimed h) z l v = absurd l
at-home tag_in (Ready t) z l v = (Some v.0, v.1, λ tag. ap (λ (n : ℕ). eqb n tag) (sym v.2))
at-home tag_in (Blocked t) z l v = (Some v.0, v.1, λ tag. ap (λ (n : ℕ). eqb n tag) (sym v.2))
at-home tag_in (Held h w t) z l v = absurd l
at-home tag_in Spent z l v = (None, v, λ tag. refl)

left-home : (s : State) (p : Place) (f : Phase) → IsLeft s → Coherent s p f → f.away ≡ false
left-home (Claimed h) p f l c = absurd l
left-home (Held h w t) p f l c = absurd l
left-home _ p f l c = c.0

there : {A : Type 0} (xs : List A) (h : ℕ) (d : A) → h < length xs → get_elem? xs h ≡ opt.some (get_or xs h d)
there [] h d l = absurd (omega (arith, l))
there (x ∷ xs) zero d l = refl
there (x ∷ xs) (suc h) d l = there xs h d (omega (arith, l))

module _ {T : Type 0} (tag_in : T → ℕ) (bits : ℕ) (w : World) (d : ℕ → Phase) (b : Board T) (s : Shows tag_in bits w d b)
    (i : ℕ) (k : Known) (mine : get_elem? b.views i ≡ opt.some (held whole k)) (none_out : k.carried ≡ []) where
  others : (h : ℕ) → (h ≡ i → ⊥) → known_at b.views h ≡ blank
  others h n = elim (cases_lt h (length b.views)) [
    | inl l ↦ ap (λ (t : Token Known). t.known) (whole-alone blank s.seats i h (held whole k) (get_or b.views h (spent blank)) mine refl n (there b.views h (spent blank) l))
    | inr l ↦ ap (λ (t : Token Known). t.known) (get_or_past b.views h (spent blank) l)
  ]

  pub all-left : (x : ℕ) → IsContext w x → IsLeft (w.state x)
  all-left x x_in = left (w.state x) (carried_of w d x) (λ h. sym (s.carried h x x_in) ∙ elim (cases_eq h i) [
    | inl e ↦ ap (λ (j : ℕ). carried_at x (known_at b.views j).carried) e ∙ ap (λ (r : Known). carried_at x r.carried) (known-there b.views i (held whole k) mine) ∙ ap (carried_at x) none_out
    | inr n ↦ ap (λ (r : Known). carried_at x r.carried) (others h n)
  ])

  -- each thread that was posted has ended, or is live
  pub settles : (t : Thread) → count_by (same_thread t) k.given ≡ cond (is_live w t) (count_by (same_thread t) k.ended + 1) (count_by (same_thread t) k.ended)
  settles t =
      let f : Token Known → ℕ = λ (v : Token Known). count_by (same_thread t) v.known.given in
      let g : Token Known → ℕ = λ (v : Token Known). count_by (same_thread t) v.known.ended in
      let given = whole-total blank f refl s.seats i (held whole k) mine refl in
      let ended = whole-total blank g refl s.seats i (held whole k) mine refl in
      sym given ∙ sym (s.given t) ∙ s.owned.live t ∙ ap (λ (n : ℕ). cond (is_live w t) (n + 1) n) (s.ended t ∙ ended)

lifted : (q : Bool) (a : ℕ) → cond q (a + 1) a ≡ a + cond q 1 0
lifted true a = refl
lifted false a = omega arith

module _ {T : Type 0} (tag_in : T → ℕ) (bits : ℕ) (shape : Shape) (s : Table T) (hs : Holds tag_in bits shape s) (i : ℕ) (k : Known)
    (mine : get_elem? s.views i ≡ opt.some (held whole k)) (none_out : k.carried ≡ [])
    (slots : List (Option T)) (long : length s.homes ≡ length slots) (same : (y : ℕ) (o : Option T) → get_elem? s.homes y ≡ opt.some (opt.some o) → get_elem? slots y ≡ opt.some o) where
  abbrev w : World
  w = hs.world

  abbrev b : Board T
  b = board_of (contexts_in shape) s

  is-live-there : (t : Thread) → IsContext w t.0.context → is_live w t ≡ (eqb (w.generation t.0.context) t.0.generation && has_thread (w.state t.0.context) t.1)
  is-live-there t x_in = ap (λ (q : Bool). (q && eqb (w.generation t.0.context) t.0.generation) && has_thread (w.state t.0.context) t.1) (lt-ltb t.0.context (w.cores * w.slots) x_in)

  counts : (t : Thread) → count_by (same_thread t) (threads_of tag_in (left_from bits 0 s.words slots)) ≡ cond (is_live w t) 1 0
  counts t = elim (cases_lt t.0.context (w.cores * w.slots)) [
    | inl x_in ↦
        let x : ℕ = t.0.context in
        let c = hs.shows.contexts x x_in in
        let left = all-left tag_in bits w hs.phase b hs.shows i k mine none_out x x_in in
        let home = at-home tag_in (w.state x) (b.home x) left (c.value (left-home (w.state x) (w.at x) (hs.phase x) left c.coherent)) in
        let plus : 0 + x ≡ x = omega arith in
        let generation : (marked_of bits (get_or s.words (0 + x) 0)).generation ≡ w.generation x = ap (λ (q : ℕ). (marked_of bits (get_or s.words q 0)).generation) plus ∙ ap (λ (m : Marked). m.generation) (seen tag_in bits w hs.phase b hs.shows x x_in) in
        count-at tag_in bits s.words t 0 x slots home.0 (sym plus) (same x home.0 home.1)
        ∙ ap (λ (q : Bool). cond q 1 0) ((λ j. eqb (generation j) t.0.generation && sym (home.2 t.1) j) ∙ sym (is-live-there t x_in))
    | inr past_all ↦
        none-past tag_in bits s.words t 0 slots (omega (arith, past_all, long, hs.fits.homes, ap (λ (c : ℕ). c * w.slots) hs.fits.cores, ap (λ (c : ℕ). shape.cores * c) hs.fits.slots))
        ∙ ap (λ (q : Bool). cond q 1 0) (sym (and_left _ _ (and_left _ _ (le-ltb t.0.context (w.cores * w.slots) past_all))))
  ]

  -- each thread that was posted has ended or its value is in a slot
  pub all-settled : IsSettled tag_in k (left_from bits 0 s.words slots)
  all-settled = record {
    once = λ t. omega (arith, hs.shows.owned.once t, hs.shows.given t, whole-total blank (λ (v : Token Known). count_by (same_thread t) v.known.given) refl hs.shows.seats i (held whole k) mine refl);
    settled = λ t. settles tag_in bits w hs.phase b hs.shows i k mine none_out t ∙ lifted (is_live w t) (count_by (same_thread t) k.ended)
        ∙ ap (λ (m : ℕ). count_by (same_thread t) k.ended + m) (sym (counts t));
  }
