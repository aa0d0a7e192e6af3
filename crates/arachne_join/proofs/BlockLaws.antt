-- Each step on a block of cells keeps its rule, and what it says of its seat is true.
use Rattle.std.proofs.Common.{◌≡◌, ℕ, zero, suc, ◌+◌, ◌<◌, ◌≢◌, ◌⊎◌, inl, inr, ⊎_elim, List, [], ◌∷◌, ◌++◌, map, length, replicate, get_or, set, sym, refl, ap, ◌∙◌, subst, arith, length-set, get_or-set_same, get_or-set_other}
use Rattle.std.{proofs.lemmas.List.set-get_or, specs.declared.snapshot.Snapshot.Snapshot}
use mathlib.Core.{Option.{some, none, some-injective, some-ne-none}, Logic.dite}
use mathlib.Core.Option as maybe
use native.Mathlib.Decide.{ℕ_discrete}
use lib.ListN.{get_elem?}
use Rattle.atomic_table.specs.Table as table
use Rattle.atomic_table.specs.Table.{Me, rest, keeps, takes, gives, opening, Allows, Splits}
use Rattle.atomic_table.proofs.Lists.{at_set, set_here, set_else}
use Rattle.arachne_join.specs.declared.part.Content.{Content, TheVariants.{Empty, For, Value}}
use Rattle.arachne_join.specs.{declared.part.{Part.Part, PartView.PartView}, BlockRule.{IsShared, all_cells}}
use Rattle.arachne_join.specs.declared.part.Part.TheVariants.{Rest, Fresh, Unused, Opened, Sending, Receiving, Spent}
use Rattle.arachne_join.specs.Parts.{word_after, part_view, MaySend, MayReceive, IsSendingFor, IsReceivingFor, AreApart, HasCome, Knows}
use Rattle.arachne_join.specs.BlockSteps.{without_first, the_first, sending_end, receiving_end, missed_once, with_slot, IsSendingAt, IsReceivingAt, Starts, Opens, Fetches}

-- one more value flips the word
flips : (k : ℕ) → word_after k ≡ word_after (k + 1) → ⊥
flips k e = omega (arith, e)

-- what stands in a list with one more at its end
at_end : {A : Type 0} (l : List A) (a b : A) (j : ℕ) → get_elem? (l ++ a ∷ []) j ≡ some b → (get_elem? l j ≡ some b) ⊎ ((j ≡ length l) × (a ≡ b))
at_end [] a b zero e = inr (refl, some-injective a b e)
at_end [] a b (suc j) e = absurd (some-ne-none b (sym e))
at_end (x ∷ xs) a b zero e = inl e
at_end (x ∷ xs) a b (suc j) e = ⊎_elim inl (λ t. inr (ap suc t.0, t.1)) (at_end xs a b j e)

module _ {K : Type 0} where
  -- who has an end of a cell has its right
  sends_there : (k : K) (p : Part K) (n : ℕ) → IsSendingFor k p → MaySend p n n
  sends_there k (Sending j) n s = refl
  sends_there k _ n s = absurd s

  receives_there : (k : K) (p : Part K) (n : ℕ) → IsReceivingFor k p → MayReceive p n n
  receives_there k (Receiving j misses) n s = refl
  receives_there k _ n s = absurd s

  -- the seat keeps no end, and gets no right
  narrows : (v w u : PartView K) → ((i : ℕ) → MaySend w.part w.index i → MaySend v.part v.index i) → ((i : ℕ) → MayReceive w.part w.index i → MayReceive v.part v.index i)
      → ((k : K) → IsSendingFor k w.part → ⊥) → ((k : K) → IsReceivingFor k w.part → ⊥) → AreApart v u → AreApart u v → AreApart w u × AreApart u w
  narrows v w u send receive no_send no_receive a b = (
    record { send = λ i s t. a.send i (send i s) t; receive = λ i s t. a.receive i (receive i s) t; paired = λ j k s r e. absurd (no_send j s) },
    record { send = λ i s t. b.send i s (send i t); receive = λ i s t. b.receive i s (receive i t); paired = λ j k s r e. absurd (no_receive k r) },
  )

  -- an opened cell becomes its two ends
  sending_apart : (key : K) (n p : ℕ) (u : PartView K) → AreApart (part_view (Opened key) n p) u → AreApart u (part_view (Opened key) n p)
      → AreApart (part_view (Sending key) n p) u × AreApart u (part_view (Sending key) n p)
  sending_apart key n p u a b = (
    record { send = a.send; receive = λ i s t. absurd s; paired = λ j k s r e. absurd (a.receive n refl (subst (MayReceive u.part u.index) (sym e) (receives_there k u.part u.index r))) },
    record { send = b.send; receive = λ i s t. absurd t; paired = λ j k s r e. absurd r },
  )

  receiving_apart : (key : K) (n p : ℕ) (u : PartView K) → AreApart (part_view (Opened key) n p) u → AreApart u (part_view (Opened key) n p)
      → AreApart (part_view (Receiving key 0) n p) u × AreApart u (part_view (Receiving key 0) n p)
  receiving_apart key n p u a b = (
    record { send = λ i s t. absurd s; receive = a.receive; paired = λ j k s r e. absurd s },
    record { send = λ i s t. absurd t; receive = b.receive; paired = λ j k s r e. absurd (b.send n (subst (MaySend u.part u.index) e (sends_there j u.part u.index s)) refl) },
  )

  -- the receiving end has the whole cell, if nobody else may send there
  emptied_apart : (key : K) (misses n p : ℕ) (u : PartView K) → (MaySend u.part u.index n → ⊥) → AreApart (part_view (Receiving key misses) n p) u → AreApart u (part_view (Receiving key misses) n p)
      → AreApart (part_view Unused n (p + 1)) u × AreApart u (part_view Unused n (p + 1))
  emptied_apart key misses n p u nobody a b = (
    record { send = λ i s t. nobody (subst (MaySend u.part u.index) (sym s) t); receive = a.receive; paired = λ j k s r e. absurd s },
    record { send = λ i s t. nobody (subst (MaySend u.part u.index) (sym t) s); receive = b.receive; paired = λ j k s r e. absurd r },
  )

  misses_apart : (key : K) (misses n p : ℕ) (u : PartView K) → AreApart (part_view (Receiving key misses) n p) u → AreApart u (part_view (Receiving key misses) n p)
      → AreApart (part_view (Receiving key (misses + 1)) n p) u × AreApart u (part_view (Receiving key (misses + 1)) n p)
  misses_apart key misses n p u a b = (record { send = a.send; receive = a.receive; paired = a.paired }, record { send = b.send; receive = b.receive; paired = b.paired })

module _ {T K : Type 0} where
  -- a seat with its cell's slot holds that slot last
  pub holds_slot : (v : PartView K) (content : Content T K) (me : Me (Content T K) (PartView K)) → me ≡ with_slot v content → (old : Content T K) × (me.1 ≡ (v.index, old) ∷ rest me.1)
  holds_slot v content me is = let held = ap (λ (m : Me (Content T K) (PartView K)). m.1) is in (content, held ∙ ap (λ l. (v.index, content) ∷ rest l) (sym held))

  -- after an exchange the slot holds what was laid into it, and what came out is what it held
  pub slot_laid : (v : PartView K) (content laid : Content T K) (me after : Me (Content T K) (PartView K)) → me ≡ with_slot v content → after ≡ (me.0, (v.index, laid) ∷ rest me.1) → after ≡ with_slot v laid
  slot_laid v content laid me after is e = e ∙ ap (λ (m : Me (Content T K) (PartView K)). let x : Me (Content T K) (PartView K) = (m.0, (v.index, laid) ∷ rest m.1) in x) is

  -- what opening says, and the sending end after it
  pub opened : (n p : ℕ) (asked : Snapshot K) (me w : Me (Content T K) (PartView K)) → me ≡ with_slot (part_view Unused n p) (For asked) → Opens me w → w ≡ with_slot (part_view (Opened asked.value) n p) (For asked)
  opened n p asked me w is told = (subst (λ (m : Me (Content T K) (PartView K)). Opens m w) is told) asked refl

  pub sends_for : (n p : ℕ) (asked : Snapshot K) (key : K) (me after : Me (Content T K) (PartView K)) → asked.value ≡ key → me ≡ with_slot (part_view (Opened asked.value) n p) (For asked) → after ≡ (sending_end me.0, me.1) → IsSendingAt n p key after
  sends_for n p asked key me after same is e = (
    asked,
    e ∙ ap (λ (m : Me (Content T K) (PartView K)). let x : Me (Content T K) (PartView K) = (sending_end m.0, m.1) in x) is ∙ ap (λ (k : K). with_slot (part_view (Sending k) n p) (For asked)) same,
  )

  pub receives_for : (n p : ℕ) (asked : Snapshot K) (key : K) (me after : Me (Content T K) (PartView K)) → asked.value ≡ key → me ≡ with_slot (part_view (Opened asked.value) n p) (For asked) → after ≡ (receiving_end me.0, []) → IsReceivingAt n p key 0 after
  receives_for n p asked key me after same is e =
      e ∙ ap (λ (m : Me (Content T K) (PartView K)). let x : Me (Content T K) (PartView K) = (receiving_end m.0, []) in x) is ∙ ap (λ (k : K). let x : Me (Content T K) (PartView K) = (part_view (Receiving k 0) n p, []) in x) same

  -- a sending end has the count that its view has
  pub sends_still : (n p : ℕ) (key other : K) (me : Me (Content T K) (PartView K)) → IsSendingAt n p key me → other ≡ key → IsSendingAt n me.0.passed other me
  sends_still n p key other me is same = (
    is.0,
    is.1 ∙ ap (λ (k : K). with_slot (part_view (Sending k) n p) (For is.0)) (sym same) ∙ ap (λ (q : ℕ). with_slot (part_view (Sending other) n q) (For is.0)) (sym (ap (λ (m : Me (Content T K) (PartView K)). m.0.passed) is.1)),
  )

  content_of : Content T K → List (ℕ × Content T K) → Content T K
  content_of other [] = other
  content_of other (x ∷ xs) = x.1

  pub slot_held : (v : PartView K) (content out : Content T K) (me : Me (Content T K) (PartView K)) → me ≡ with_slot v content → me.1 ≡ (v.index, out) ∷ rest me.1 → out ≡ content
  unfolding content_of
  slot_held v content out me is e = sym (ap (content_of out) e) ∙ ap (λ (m : Me (Content T K) (PartView K)). content_of out m.1) is

  value_of : T → Content T K → T
  value_of other Empty = other
  value_of other (For key) = other
  value_of other (Value value) = value

  pub same_value : (a b : T) → (let x : Content T K = Value a in let y : Content T K = Value b in x ≡ y) → a ≡ b
  unfolding value_of
  same_value a b e = ap (value_of a) e

module _ {T K : Type 0} (fits : K → T → Type 0) where
  -- a seat with no right to the cell n knows as much once that cell's word and slot have changed
  elsewhere : (words words' : List ℕ) (homes homes' : List (maybe.Option (Content T K))) (n : ℕ) → length homes' ≡ length homes
      → ((j : ℕ) → j ≢ n → get_or words' j 0 ≡ get_or words j 0) → ((j : ℕ) → j ≢ n → get_elem? homes' j ≡ get_elem? homes j)
      → (i q : ℕ) (p : Part K) → (MaySend p i n → ⊥) → (MayReceive p i n → ⊥) → Knows fits words homes i q p → Knows fits words' homes' i q p
  elsewhere words words' homes homes' n long ws hs i q Rest no_send no_receive k = λ j le lt.
      let f = k j le (omega (arith, long, lt)) in let ne : j ≢ n = λ e. no_send (omega (arith, e, le)) in (ws j ne ∙ f.0, hs j ne ∙ f.1)
  elsewhere words words' homes homes' n long ws hs i q Fresh no_send no_receive k = λ lt. let f = k (omega (arith, long, lt)) in (ws i no_send ∙ f.0, hs i no_send ∙ f.1)
  elsewhere words words' homes homes' n long ws hs i q (Receiving j misses) no_send no_receive k =
      ⊎_elim (λ x. inl (ws i no_receive ∙ x)) (λ x. inr (ws i no_receive ∙ x.0, (x.1.0, hs i no_receive ∙ x.1.1, x.1.2))) k
  elsewhere words words' homes homes' n long ws hs i q Spent no_send no_receive k = tt
  elsewhere words words' homes homes' n long ws hs i q _ no_send no_receive k = ws i no_send ∙ k

  -- the receiving end at the cell knows that the value has come, and the others know as much
  others_told : (words words' : List ℕ) (homes homes' : List (maybe.Option (Content T K))) (n : ℕ) → length homes' ≡ length homes
      → ((j : ℕ) → j ≢ n → get_or words' j 0 ≡ get_or words j 0) → ((j : ℕ) → j ≢ n → get_elem? homes' j ≡ get_elem? homes j)
      → (key : K) (passed : ℕ) → HasCome fits key words' homes' n passed
      → (i q : ℕ) (p : Part K) → AreApart (part_view (Sending key) n passed) (part_view p i q) → Knows fits words homes i q p → Knows fits words' homes' i q p
  others_told words words' homes homes' n long ws hs key passed come i q Rest a k = elsewhere words words' homes homes' n long ws hs i q Rest (a.send n refl) (a.send n refl) k
  others_told words words' homes homes' n long ws hs key passed come i q Fresh a k = elsewhere words words' homes homes' n long ws hs i q Fresh (a.send n refl) (a.send n refl) k
  others_told words words' homes homes' n long ws hs key passed come i q Unused a k = elsewhere words words' homes homes' n long ws hs i q Unused (a.send n refl) (a.send n refl) k
  others_told words words' homes homes' n long ws hs key passed come i q (Opened j) a k = elsewhere words words' homes homes' n long ws hs i q (Opened j) (a.send n refl) (a.send n refl) k
  others_told words words' homes homes' n long ws hs key passed come i q (Sending j) a k = elsewhere words words' homes homes' n long ws hs i q (Sending j) (a.send n refl) (λ x. x) k
  others_told words words' homes homes' n long ws hs key passed come i q (Receiving j misses) a k = dite (ℕ_discrete i n)
      (λ e. let same = a.paired key j refl refl (sym e) in inr (
      subst (λ (m : ℕ). HasCome fits j words' homes' m q) (sym e) (subst (λ (r : ℕ). HasCome fits j words' homes' n r) same.1 (subst (λ (x : K). HasCome fits x words' homes' n passed) same.0 come))))
      (λ ne. elsewhere words words' homes homes' n long ws hs i q (Receiving j misses) (λ x. x) ne k)
  others_told words words' homes homes' n long ws hs key passed come i q Spent a k = tt

  -- nobody may send at a cell whose value has come
  nobody_sends : (words : List ℕ) (homes : List (maybe.Option (Content T K))) (n : ℕ) (key : K) (misses passed : ℕ) → get_or words n 0 ≡ word_after (passed + 1)
      → (i q : ℕ) (p : Part K) → AreApart (part_view (Receiving key misses) n passed) (part_view p i q) → AreApart (part_view p i q) (part_view (Receiving key misses) n passed) → Knows fits words homes i q p → MaySend p i n → ⊥
  nobody_sends words homes n key misses passed come i q (Sending j) a b k s = let same = b.paired j key refl refl s in
      flips passed (ap word_after (sym same.1) ∙ sym k ∙ ap (λ m. get_or words m 0) s ∙ come)
  nobody_sends words homes n key misses passed come i q (Receiving j others) a b k s = absurd s
  nobody_sends words homes n key misses passed come i q Spent a b k s = absurd s
  nobody_sends words homes n key misses passed come i q _ a b k s = a.receive n refl s

  -- one seat's part changes, with the words and the slots
  changes : (s : table.State (Content T K) (PartView K)) (id : ℕ) (v w : PartView K) (words' : List ℕ) (homes' : List (maybe.Option (Content T K))) → IsShared fits s → get_elem? s.views id ≡ some v → length words' ≡ length homes'
      → ((u : PartView K) → AreApart v u → AreApart u v → Knows fits s.words s.homes u.index u.passed u.part → (AreApart w u × AreApart u w) × Knows fits words' homes' u.index u.passed u.part)
      → Knows fits words' homes' w.index w.passed w.part
      → IsShared fits record { words = words'; homes = homes'; views = set s.views id w }
  changes s id v w words' homes' kept at sized others mine = record {
    sized = sized;
    apart = λ a b x y at_a at_b ne. ⊎_elim
        (λ (f : (a ≡ id) × (w ≡ x)). ⊎_elim (λ (g : (b ≡ id) × (w ≡ y)). absurd (ne (f.0 ∙ sym g.0)))
        (λ (g : (b ≢ id) × (get_elem? s.views b ≡ some y)). subst (λ (z : PartView K). AreApart z y) f.1 (beside b y g.0 g.1).0.0) (at_set s.views id b w y at_b))
        (λ (f : (a ≢ id) × (get_elem? s.views a ≡ some x)). ⊎_elim (λ (g : (b ≡ id) × (w ≡ y)). subst (λ (z : PartView K). AreApart x z) g.1 (beside a x f.0 f.1).0.1)
        (λ (g : (b ≢ id) × (get_elem? s.views b ≡ some y)). kept.apart a b x y f.1 g.1 ne) (at_set s.views id b w y at_b)) (at_set s.views id a w x at_a);
    known = λ a x at_a. ⊎_elim (λ (f : (a ≡ id) × (w ≡ x)). subst (λ (z : PartView K). Knows fits words' homes' z.index z.passed z.part) f.1 mine)
        (λ (f : (a ≢ id) × (get_elem? s.views a ≡ some x)). (beside a x f.0 f.1).1) (at_set s.views id a w x at_a);
  }
    where
      beside : (j : ℕ) (u : PartView K) → j ≢ id → get_elem? s.views j ≡ some u → (AreApart w u × AreApart u w) × Knows fits words' homes' u.index u.passed u.part
      beside j u ne there = others u (kept.apart id j v u at there (λ e. ne (sym e))) (kept.apart j id u v there at ne) (kept.known j u there)

  -- one seat's part is cut in two
  cuts : (s : table.State (Content T K) (PartView K)) (id : ℕ) (v l r : PartView K) → IsShared fits s → get_elem? s.views id ≡ some v
      → ((u : PartView K) → AreApart v u → AreApart u v → (AreApart l u × AreApart u l) × (AreApart r u × AreApart u r)) → AreApart l r → AreApart r l
      → Knows fits s.words s.homes l.index l.passed l.part → Knows fits s.words s.homes r.index r.passed r.part
      → IsShared fits record { words = s.words; homes = s.homes; views = set s.views id l ++ r ∷ [] }
  cuts s id v l r kept at others lr rl mine new = record {
    sized = kept.sized;
    apart = λ a b x y at_a at_b ne. ⊎_elim
        (λ (f : get_elem? (set s.views id l) a ≡ some x). ⊎_elim (λ (g : get_elem? (set s.views id l) b ≡ some y). left.apart a b x y f g ne)
        (λ (g : (b ≡ length (set s.views id l)) × (r ≡ y)). subst (λ (z : PartView K). AreApart x z) g.1 (newly a x f).1) (at_end (set s.views id l) r y b at_b))
        (λ (f : (a ≡ length (set s.views id l)) × (r ≡ x)). ⊎_elim (λ (g : get_elem? (set s.views id l) b ≡ some y). subst (λ (z : PartView K). AreApart z y) f.1 (newly b y g).0)
        (λ (g : (b ≡ length (set s.views id l)) × (r ≡ y)). absurd (ne (f.0 ∙ sym g.0))) (at_end (set s.views id l) r y b at_b)) (at_end (set s.views id l) r x a at_a);
    known = λ a x at_a. ⊎_elim (left.known a x) (λ (f : (a ≡ length (set s.views id l)) × (r ≡ x)). subst (λ (z : PartView K). Knows fits s.words s.homes z.index z.passed z.part) f.1 new) (at_end (set s.views id l) r x a at_a);
  }
    where
      left : IsShared fits record { words = s.words; homes = s.homes; views = set s.views id l }
      left = changes s id v l s.words s.homes kept at kept.sized (λ u a b k. ((others u a b).0, k)) mine

      newly : (j : ℕ) (u : PartView K) → get_elem? (set s.views id l) j ≡ some u → AreApart r u × AreApart u r
      newly j u there = ⊎_elim (λ (f : (j ≡ id) × (l ≡ u)). subst (λ (z : PartView K). AreApart r z × AreApart z r) f.1 (rl, lr))
          (λ (f : (j ≢ id) × (get_elem? s.views j ≡ some u)). (others u (kept.apart id j v u at f.1 (λ e. f.0 (sym e))) (kept.apart j id u v f.1 at f.0)).1) (at_set s.views id j l u there)

  -- the seat of all cells gives the first to a new seat
  pub gives_first : (id n p : ℕ) (v : PartView K) → v ≡ part_view Rest n p → Splits (IsShared fits) id v (without_first v) (the_first v)
  gives_first id n p v is = subst (λ (x : PartView K). Splits (IsShared fits) id x (without_first x) (the_first x)) (sym is) (λ s kept at. let all = part_view Rest n p in let l = part_view Rest (n + 1) p in let r = part_view Fresh n p in
      let known = kept.known id all at in
      cuts s id all l r kept at
      (λ u a b. (
        narrows all l u (λ i x. omega (arith, x)) (λ i x. omega (arith, x)) (λ k x. absurd x) (λ k x. absurd x) a b,
        narrows all r u (λ i x. omega (arith, x)) (λ i x. omega (arith, x)) (λ k x. absurd x) (λ k x. absurd x) a b,
      ))
      (record { send = λ i x y. omega (arith, x, y); receive = λ i x y. omega (arith, x, y); paired = λ j k x y e. absurd x })
      (record { send = λ i x y. omega (arith, x, y); receive = λ i x y. omega (arith, x, y); paired = λ j k x y e. absurd x })
      (λ j le lt. known j (omega (arith, le)) lt) (λ lt. known n (omega arith) lt))

  -- the ends of an opened cell part
  pub parts_ends : (id n p : ℕ) (key : K) (x : PartView K) → x ≡ part_view (Opened key) n p → Splits (IsShared fits) id x (sending_end x) (receiving_end x)
  parts_ends id n p key x is = subst (λ (y : PartView K). Splits (IsShared fits) id y (sending_end y) (receiving_end y)) (sym is) (λ s kept at. let v = part_view (Opened key) n p in let known = kept.known id v at in
      cuts s id v (part_view (Sending key) n p) (part_view (Receiving key 0) n p) kept at
      (λ u a b. (sending_apart key n p u a b, receiving_apart key n p u a b))
      (record { send = λ i x y. absurd y; receive = λ i x y. absurd x; paired = λ j k x y e. (sym x ∙ y, refl) })
      (record { send = λ i x y. absurd x; receive = λ i x y. absurd y; paired = λ j k x y e. absurd x })
      known (inl known))

  -- a cell that was never used gets its slot
  pub starts : (slots id n : ℕ) (me : Me (Content T K) (PartView K)) → me ≡ (part_view Fresh n 0, []) → n < slots → Allows (IsShared fits) slots id me n (λ k. k) (λ _ w. Starts me w)
  starts slots id n me is inside = subst (λ (m : Me (Content T K) (PartView K)). Allows (IsShared fits) slots id m n (λ k. k) (λ _ w. Starts m w)) (sym is) (λ s kept long at _.
      let v = part_view Fresh n 0 in let w = part_view Unused n 0 in let fresh = kept.known id v at (omega (arith, long, inside)) in
      let words' = set s.words n (get_or s.words n 0) in let homes' = set s.homes n none in (
        w,
        takes n Empty,
        fresh.1,
        changes s id v w words' homes' kept at (length-set s.words n (get_or s.words n 0) ∙ kept.sized ∙ sym (length-set s.homes n none))
            (λ u a b k. (
              narrows v w u (λ i x. x) (λ i x. x) (λ j x. x) (λ j x. x) a b,
              elsewhere s.words words' s.homes homes' n (length-set s.homes n none) (λ j ne. get_or-set_other s.words n j (get_or s.words n 0) 0 ne) (λ j ne. set_else s.homes n j none ne)
                  u.index u.passed u.part (a.send n refl) (a.receive n refl) k,
            ))
            (ap (λ ws. get_or ws n 0) (set-get_or s.words n 0) ∙ fresh.0),
        refl,
      ))

  -- an unused cell is opened for a key
  key_in : Snapshot K → List (ℕ × Content T K) → Snapshot K
  key_in other ((j, For key) ∷ xs) = key
  key_in other _ = other

  pub opens_for : (slots id n p : ℕ) (key : Snapshot K) (me : Me (Content T K) (PartView K)) → me ≡ with_slot (part_view Unused n p) (For key) → Allows (IsShared fits) slots id me n (λ k. k) (λ _ w. Opens me w)
  unfolding key_in
  opens_for slots id n p key me is = subst (λ (m : Me (Content T K) (PartView K)). Allows (IsShared fits) slots id m n (λ k. k) (λ _ w. Opens m w)) (sym is) (λ s kept long at _.
      let v = part_view Unused n p in let w = part_view (Opened key.value) n p in let words' = set s.words n (get_or s.words n 0) in (
        w,
        keeps,
        tt,
        changes s id v w words' s.homes kept at (length-set s.words n (get_or s.words n 0) ∙ kept.sized)
            (λ u a b k. (narrows v w u (λ i x. x) (λ i x. x) (λ j x. x) (λ j x. x) a b, subst (λ (ws : List ℕ). Knows fits ws s.homes u.index u.passed u.part) (sym (set-get_or s.words n 0)) k))
            (ap (λ ws. get_or ws n 0) (set-get_or s.words n 0) ∙ kept.known id v at),
        λ asked e. ap (λ (k : Snapshot K). with_slot (part_view (Opened k.value) n p) (For k)) (ap (λ (m : Me (Content T K) (PartView K)). key_in key m.1) e),
      ))

  -- the sending end leaves a value that fits
  pub leaves : (slots id n p full : ℕ) (key : K) (value : T) (me : Me (Content T K) (PartView K)) → me ≡ with_slot (part_view (Sending key) n p) (Value value) → n < slots → full ≡ word_after (p + 1) → fits key value
      → Allows (IsShared fits) slots id me n (λ _. full) (λ _ w. Unit {0})
  leaves slots id n p full key value me is inside flipped fit = subst (λ (m : Me (Content T K) (PartView K)). Allows (IsShared fits) slots id m n (λ _. full) (λ _ w. Unit {0})) (sym is) (λ s kept long at _.
      let v = part_view (Sending key) n p in let w = part_view Spent n p in
      let words' = set s.words n full in let homes' = set s.homes n (some (Value value)) in let there : n < length s.homes = omega (arith, long, inside) in
      let come : HasCome fits key words' homes' n p = (get_or-set_same s.words n full 0 (omega (arith, there, kept.sized)) ∙ flipped, (value, set_here s.homes n (some (Value value)) there, fit)) in (
        w,
        gives,
        tt,
        changes s id v w words' homes' kept at (length-set s.words n full ∙ kept.sized ∙ sym (length-set s.homes n (some (Value value))))
            (λ u a b k. (
              narrows v w u (λ i x. absurd x) (λ i x. absurd x) (λ j x. absurd x) (λ j x. absurd x) a b,
              others_told s.words words' s.homes homes' n (length-set s.homes n (some (Value value))) (λ j ne. get_or-set_other s.words n j full 0 ne) (λ j ne. set_else s.homes n j (some (Value value)) ne)
                  key p come u.index u.passed u.part a k,
            ))
            tt,
        tt,
      ))

  -- the receiving end fetches the value, if it has come
  pub fetches_there : (slots id n p misses : ℕ) (key : K) (me : Me (Content T K) (PartView K)) → IsReceivingAt n p key misses me → Allows (IsShared fits) slots id me n (λ k. k) (λ found w. Fetches fits me found w)
  fetches_there slots id n p misses key me is = subst (λ (m : Me (Content T K) (PartView K)). Allows (IsShared fits) slots id m n (λ k. k) (λ found w. Fetches fits m found w)) (sym is) (λ s kept long at _.
      let v = part_view (Receiving key misses) n p in let w = part_view Unused n (p + 1) in let again = part_view (Receiving key (misses + 1)) n p in
      let words' = set s.words n (get_or s.words n 0) in let same : words' ≡ s.words = set-get_or s.words n 0 in let homes' = set s.homes n none in
      ⊎_elim (λ (waits : get_or s.words n 0 ≡ word_after p). (
        again,
        keeps,
        tt,
        changes s id v again words' s.homes kept at (length-set s.words n (get_or s.words n 0) ∙ kept.sized)
            (λ u a b k. (misses_apart key misses n p u a b, subst (λ (ws : List ℕ). Knows fits ws s.homes u.index u.passed u.part) (sym same) k))
            (subst (λ (ws : List ℕ). Knows fits ws s.homes n p (Receiving key (misses + 1))) (sym same) (inl waits)),
        λ k r. (λ found. absurd (flips p (sym waits ∙ found)), λ ne. refl),
      ))
      (λ (come : HasCome fits key s.words s.homes n p). (
        w,
        takes n (Value come.1.0),
        come.1.1,
        changes s id v w words' homes' kept at (length-set s.words n (get_or s.words n 0) ∙ kept.sized ∙ sym (length-set s.homes n none))
            (λ u a b k. let nobody = nobody_sends s.words s.homes n key misses p come.0 u.index u.passed u.part a b k in (
              emptied_apart key misses n p u nobody a b,
              elsewhere s.words words' s.homes homes' n (length-set s.homes n none) (λ j ne. get_or-set_other s.words n j (get_or s.words n 0) 0 ne) (λ j ne. set_else s.homes n j none ne)
                  u.index u.passed u.part nobody (a.receive n refl) k,
            ))
            (ap (λ ws. get_or ws n 0) same ∙ come.0),
        λ k r. (λ found. (come.1.0, refl, subst (λ (x : K). fits x come.1.0) r come.1.2), λ ne. absurd (ne come.0)),
      ))
      (kept.known id v at))

  -- what a fetch says of the receiving end
  pub come : (n p misses full found : ℕ) (key : K) (me w : Me (Content T K) (PartView K)) → IsReceivingAt n p key misses me → Fetches fits me found w → full ≡ word_after (p + 1) → found ≡ full
      → (value : T) × (w ≡ with_slot (part_view Unused n (p + 1)) (Value value)) × fits key value
  come n p misses full found key me w is told flipped same = ((subst (λ (m : Me (Content T K) (PartView K)). Fetches fits m found w) is told) key refl).0 (same ∙ flipped)

  pub missed : (n p misses full found : ℕ) (key : K) (me w : Me (Content T K) (PartView K)) → IsReceivingAt n p key misses me → Fetches fits me found w → full ≡ word_after (p + 1) → found ≢ full
      → w ≡ (missed_once me.0, [])
  missed n p misses full found key me w is told flipped other =
      (told key (subst (λ (m : Me (Content T K) (PartView K)). IsReceivingFor key m.0.part) (sym is) refl)).1 (λ e. other (e ∙ ap (λ (m : Me (Content T K) (PartView K)). word_after (m.0.passed + 1)) is ∙ sym flipped))
      ∙ ap (λ (l : List (ℕ × Content T K)). let x : Me (Content T K) (PartView K) = (missed_once me.0, l) in x) (ap (λ (m : Me (Content T K) (PartView K)). m.1) is)

  pub fits_for : (n p misses : ℕ) (key other : K) (value out : T) (me : Me (Content T K) (PartView K)) → IsReceivingAt n p key misses me → fits key value → value ≡ out → IsReceivingFor other me.0.part → fits other out
  fits_for n p misses key other value out me is fit same for = let keys : key ≡ other = subst (λ (m : Me (Content T K) (PartView K)). IsReceivingFor other m.0.part) is for in
      subst (λ (k : K). fits k out) keys (subst (λ (x : T). fits key x) same fit)

  abbrev none_there : Content T K
  none_there = Empty

  -- the rule holds of a new block
  fresh_words : (n j : ℕ) → get_or {A = ℕ} (replicate n 0) j 0 ≡ 0
  fresh_words zero j = refl
  fresh_words (suc n) zero = refl
  fresh_words (suc n) (suc j) = fresh_words n j

  fresh_slots : (n j : ℕ) → j < length (map some (replicate n none_there)) → get_elem? (map some (replicate n none_there)) j ≡ some (some Empty)
  fresh_slots zero j lt = absurd (omega (arith, lt))
  fresh_slots (suc n) zero lt = refl
  fresh_slots (suc n) (suc j) lt = fresh_slots n j (omega (arith, lt))

  fresh_count : (n : ℕ) → length {A = ℕ} (replicate n 0) ≡ length (map some (replicate n none_there))
  fresh_count zero = refl
  fresh_count (suc n) = ap suc (fresh_count n)

  pub new_block : (n : ℕ) (slots : List (Content T K)) → slots ≡ replicate n Empty → IsShared fits (opening (replicate n 0) slots all_cells)
  new_block n slots is = subst (λ (xs : List (Content T K)). IsShared fits (opening (replicate n 0) xs all_cells)) (sym is) (record {
    sized = fresh_count n;
    apart = λ a b v w at_a at_b ne. absurd (ne ((only v a at_a).0 ∙ sym (only w b at_b).0));
    known = λ a v at_a. subst (λ (z : PartView K). Knows fits (replicate n 0) (map some (replicate n Empty)) z.index z.passed z.part) (only v a at_a).1 (λ j le lt. (fresh_words n j, fresh_slots n j lt));
  })
    where
      only : (v : PartView K) (a : ℕ) → get_elem? (all_cells ∷ []) a ≡ some v → (a ≡ 0) × (all_cells ≡ v)
      only v zero e = (refl, some-injective all_cells v e)
      only v (suc a) e = absurd (some-ne-none v (sym e))
