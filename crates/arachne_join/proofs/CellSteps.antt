-- Each step on a cell keeps its rule, and what it says of its seat is true.
use Rattle.std.proofs.Common.{◌≡◌, ℕ, zero, suc, ◌<◌, ◌≤◌, ◌≢◌, ◌⊎◌, inl, inr, ⊎_elim, List, [], ◌∷◌, ◌++◌, length, replicate, get_or, set, Option, Some, None, sym, refl, ap, ◌∙◌, subst, arith, length-set, get_or-set_same, ◌==◌}
use mathlib.Core.Option.{some, none, some-injective, some-ne-none}
use mathlib.Core.Option as maybe
use lib.ListN.{get_elem?}
use prog.Atomic.{either}
use Rattle.atomic_table.specs.Table as table
use Rattle.atomic_table.specs.Table.{Me, rest, keeps, takes, gives, opening, Allows, Enters, Joins}
use Rattle.atomic_table.proofs.Lists.{at_set, set_here, set_else, at_longer, set_again, at_snoc, exchanged}
use Rattle.arachne_join.specs.declared.{state.CellState.CellState, view.{Role.Role, View.View}}
use Rattle.arachne_join.specs.declared.view.Role.TheVariants.{Maker, Sender, Left, PutBack, Fetched, Saw, Never}
use Rattle.arachne_join.specs.{States.state_of, Views.{view, blank}, Steps.{joined_role, Becomes, Sends, Looks, Takes}}
use Rattle.arachne_join.specs.Rule.{IsExclusive, IsMadeBy, Knows, IsHome, IsLawful, IsKept}

-- the word that a seat's step made is one of the four
is_state : (n : ℕ) (p : Role) → IsMadeBy n p → n ≤ 3
is_state n (Saw s) m = absurd m
is_state n Never m = absurd m
is_state n _ m = omega (arith, m)

-- a seat that only looked has not left the word as it is
looked_made_nothing : (n : ℕ) (p : Role) (s : CellState) → p ≡ Saw s → IsMadeBy n p → ⊥
looked_made_nothing n p s e m = subst (IsMadeBy n) e m

module _ {T : Type 0} where
  -- a seat that isn't exclusive knows as much after any step
  knows_after : (n m : ℕ) (h h' : List (maybe.Option (Option T))) (p : Role) → (IsExclusive p → ⊥) → Knows n h p → Knows m h' p
  knows_after n m h h' Left others k = tt
  knows_after n m h h' PutBack others k = tt
  knows_after n m h h' (Saw s) others k = tt
  knows_after n m h h' _ others k = absurd (others tt)

  -- a seat is exclusive only if the cell is empty or taken
  exclusive_at : (n : ℕ) (h : List (maybe.Option (Option T))) (p : Role) → IsExclusive p → Knows n h p → (n ≡ 0) ⊎ (n ≡ 2)
  exclusive_at n h Maker a k = inl k.0
  exclusive_at n h Sender a k = inl k
  exclusive_at n h Fetched a k = inr k
  exclusive_at n h Never a k = absurd k
  exclusive_at n h _ a k = absurd a

  -- a seat that holds one slot holds it last
  pub holds_one : (held : List (ℕ × Option T)) (value : T) → held ≡ (0, Some value) ∷ [] → (old : Option T) × (held ≡ (0, old) ∷ rest held)
  holds_one held value is = (Some value, is ∙ ap (λ l. (0, Some value) ∷ rest l) (sym is))

-- a place that holds something is in the list
in_list : {A : Type 0} (l : List A) (i : ℕ) (a : A) → get_elem? l i ≡ some a → i < length l
in_list [] i a e = absurd (some-ne-none a (sym e))
in_list (x ∷ xs) zero a e = omega arith
in_list (x ∷ xs) (suc i) a e = let before = in_list xs i a e in omega arith

-- a list of one
only : {A : Type 0} (a b : A) (i : ℕ) → get_elem? (a ∷ []) i ≡ some b → (i ≡ 0) × (a ≡ b)
only a b zero e = (refl, some-injective a b e)
only a b (suc i) e = absurd (some-ne-none b (sym e))

-- the seat that is joined into the one that fetched had fetched too, or the joined seat has the role `Fetched`
join_cases : (q : Role) → (q ≡ Fetched) ⊎ (joined_role q ≡ Fetched)
join_cases Fetched = inl refl
join_cases _ = inr refl

module _ {T K : Type 0} (fits may_wait : T → Type 0) where
  -- no other seat is exclusive beside one that is
  others_beside : (n : ℕ) (h : List (maybe.Option (Option T))) (views : List (View K)) (id : ℕ) (v : View K) → IsLawful fits may_wait n h views → get_elem? views id ≡ some v → IsExclusive v.role
      → (j : ℕ) (u : View K) → get_elem? views j ≡ some u → j ≢ id → IsExclusive u.role → ⊥
  others_beside n h views id v st at mine j u e ne a = ne (st.exclusive j id u v e at a mine)

  -- no seat is exclusive if the cell is full or a value waits
  none_exclusive : (n : ℕ) (h : List (maybe.Option (Option T))) (views : List (View K)) (id : ℕ) → IsLawful fits may_wait n h views → n ≢ 0 → n ≢ 2
      → (j : ℕ) (u : View K) → get_elem? views j ≡ some u → j ≢ id → IsExclusive u.role → ⊥
  none_exclusive n h views id st ne_zero ne_two j u e ne a = ⊎_elim ne_zero ne_two (exclusive_at n h u.role a (st.known j u e))

  -- one seat's view changes, with the word and the slot
  changes : (n m : ℕ) (h h' : List (maybe.Option (Option T))) (views : List (View K)) (id : ℕ) (v w : View K) → IsLawful fits may_wait n h views → get_elem? views id ≡ some v
      → ((j : ℕ) (u : View K) → get_elem? views j ≡ some u → j ≢ id → IsExclusive u.role → ⊥)
      → (m ≡ 1 → IsHome fits h') → (m ≡ 3 → IsHome may_wait h') → IsMadeBy m w.role → Knows m h' w.role
      → IsLawful fits may_wait m h' (set views id w)
  changes n m h h' views id v w st at free full waiting made mine = record {
    full = full;
    waiting = waiting;
    made = (id, w, set_here views id w (in_list views id v at), made);
    known = λ i u e. ⊎_elim (λ (x : (i ≡ id) × (w ≡ u)). subst (λ (z : View K). Knows m h' z.role) x.1 mine)
        (λ (x : (i ≢ id) × (get_elem? views i ≡ some u)). knows_after n m h h' u.role (free i u x.1 x.0) (st.known i u x.1)) (at_set views id i w u e);
    exclusive = λ i j u u' e e' a a'. ⊎_elim (λ (x : (i ≡ id) × (w ≡ u)). ⊎_elim (λ (y : (j ≡ id) × (w ≡ u')). x.0 ∙ sym y.0)
        (λ (y : (j ≢ id) × (get_elem? views j ≡ some u')). absurd (free j u' y.1 y.0 a')) (at_set views id j w u' e'))
        (λ (x : (i ≢ id) × (get_elem? views i ≡ some u)). absurd (free i u x.1 x.0 a)) (at_set views id i w u e);
  }

  -- a seat that didn't make the word what it is becomes one that looked
  looks_again : (n : ℕ) (h : List (maybe.Option (Option T))) (views : List (View K)) (id : ℕ) (k : Option K) (s : CellState) → IsLawful fits may_wait n h views
      → ((i : ℕ) × (v : View K) × (get_elem? views i ≡ some v) × (i ≢ id) × IsMadeBy n v.role)
      → IsLawful fits may_wait n h (set views id (view k (Saw s)))
  looks_again n h views id k s st maker = record {
    full = st.full;
    waiting = st.waiting;
    made = (maker.0, maker.1, set_else views id maker.0 (view k (Saw s)) maker.3 ∙ maker.2, maker.4);
    known = λ i u e. ⊎_elim (λ (x : (i ≡ id) × (view k (Saw s) ≡ u)). subst (λ (z : View K). Knows n h z.role) x.1 tt)
        (λ (x : (i ≢ id) × (get_elem? views i ≡ some u)). st.known i u x.1) (at_set views id i (view k (Saw s)) u e);
    exclusive = λ i j u u' e e' a a'. ⊎_elim (λ (x : (i ≡ id) × (view k (Saw s) ≡ u)). absurd (subst (λ (z : View K). IsExclusive z.role) (sym x.1) a))
        (λ (x : (i ≢ id) × (get_elem? views i ≡ some u)). ⊎_elim (λ (y : (j ≡ id) × (view k (Saw s) ≡ u')). absurd (subst (λ (z : View K). IsExclusive z.role) (sym y.1) a'))
        (λ (y : (j ≢ id) × (get_elem? views j ≡ some u')). st.exclusive i j u u' x.1 y.1 a a') (at_set views id j (view k (Saw s)) u' e')) (at_set views id i (view k (Saw s)) u e);
  }

  -- the seat that made the word what it is, beside one that looked
  maker_other : (n : ℕ) (h : List (maybe.Option (Option T))) (views : List (View K)) (id : ℕ) (v : View K) (s : CellState) → IsLawful fits may_wait n h views → get_elem? views id ≡ some v → v.role ≡ Saw s
      → (i : ℕ) × (u : View K) × (get_elem? views i ≡ some u) × (i ≢ id) × IsMadeBy n u.role
  maker_other n h views id v s st at saw =
      let i = st.made.0 in let u = st.made.1 in
      (i, u, st.made.2, (λ e. let same : v ≡ u = some-injective v u (sym at ∙ ap (get_elem? views) (sym e) ∙ st.made.2) in looked_made_nothing n v.role s saw (subst (λ (z : View K). IsMadeBy n z.role) (sym same) st.made.3)), st.made.3)

  -- a seat that looked comes to the others
  new_looks : (n : ℕ) (h : List (maybe.Option (Option T))) (views : List (View K)) (k : Option K) (s : CellState) → IsLawful fits may_wait n h views → IsLawful fits may_wait n h (views ++ view k (Saw s) ∷ [])
  new_looks n h views k s st = record {
    full = st.full;
    waiting = st.waiting;
    made = (st.made.0, st.made.1, at_longer views (view k (Saw s) ∷ []) st.made.0 st.made.1 st.made.2, st.made.3);
    known = λ i u e. ⊎_elim (st.known i u) (λ (x : view k (Saw s) ≡ u). subst (λ (z : View K). Knows n h z.role) x tt) (at_snoc views (view k (Saw s)) u i e);
    exclusive = λ i j u u' e e' a a'. ⊎_elim (λ (x : get_elem? views i ≡ some u). ⊎_elim (λ (y : get_elem? views j ≡ some u'). st.exclusive i j u u' x y a a')
        (λ (y : view k (Saw s) ≡ u'). absurd (subst (λ (z : View K). IsExclusive z.role) (sym y) a')) (at_snoc views (view k (Saw s)) u' j e'))
        (λ (x : view k (Saw s) ≡ u). absurd (subst (λ (z : View K). IsExclusive z.role) (sym x) a)) (at_snoc views (view k (Saw s)) u i e);
  }

  -- the word becomes m
  rewords : (words : List ℕ) (m : ℕ) (h : List (maybe.Option (Option T))) (views : List (View K)) → length words ≡ 1 → IsLawful fits may_wait m h views
      → IsKept fits may_wait record { words = set words 0 m; homes = h; views = views }
  rewords words m h views one st = (length-set words 0 m ∙ one, subst (λ (n : ℕ). IsLawful fits may_wait n h views) (sym (get_or-set_same words 0 m 0 (omega arith))) st)

  -- the rule holds of an empty cell
  pub opens : (k : Option K) → IsKept fits may_wait (opening (0 ∷ []) (replicate 1 None) (view k Maker))
  opens k = (
    refl,
    record {
      full = λ e. absurd (omega arith);
      waiting = λ e. absurd (omega arith);
      made = (0, view k Maker, refl, refl);
      known = λ i v e. subst (λ (z : View K). Knows {T = T} 0 (some None ∷ []) z.role) (only (view k Maker) v i e).1 (refl, refl);
      exclusive = λ i j v w e e' _ _. (only (view k Maker) v i e).0 ∙ sym (only (view k Maker) w j e').0;
    },
  )

  -- the first seat takes the slot
  pub takes_slot : (slots id : ℕ) (k : Option K) (me : Me (Option T) (View K)) → me ≡ (view k Maker, []) → Allows (IsKept fits may_wait) slots id me 0 (λ n. n) (λ _ w. Sends w)
  takes_slot slots id k me is = subst (λ (m : Me (Option T) (View K)). Allows (IsKept fits may_wait) slots id m 0 (λ n. n) (λ _ w. Sends w)) (sym is) (λ s kept wide at _.
      let st = kept.1 in let n = get_or s.words 0 0 in let claim = st.known id (view k Maker) at in let h' = set s.homes 0 none in let w = view k Sender in (
        w,
        takes 0 None,
        claim.1,
        rewords s.words n h' (set s.views id w) kept.0
            (changes n n s.homes h' s.views id (view k Maker) w st at (others_beside n s.homes s.views id (view k Maker) st at tt)
            (λ e. absurd (omega (arith, claim.0))) (λ e. absurd (omega (arith, claim.0))) claim.0 claim.0),
        (refl, refl),
      ))

  -- the sending end gives the slot home with a value, and the word becomes t
  pub fills : (t : ℕ) (p : Role) (slots id : ℕ) (v : View K) (value : T) (me : Me (Option T) (View K)) → me ≡ (v, (0, Some value) ∷ []) → v.role ≡ Sender → 0 < slots
      → (t ≡ 1 → fits value) → (t ≡ 3 → may_wait value) → IsMadeBy t p → ((h : List (maybe.Option (Option T))) → Knows t h p)
      → Allows (IsKept fits may_wait) slots id me 0 (λ _. t) (λ _ w. Becomes p w)
  fills t p slots id v value me holds sends room fit wait made claims = subst (λ (m : Me (Option T) (View K)). Allows (IsKept fits may_wait) slots id m 0 (λ _. t) (λ _ w. Becomes p w)) (sym holds) (λ s kept wide at _.
      let st = kept.1 in let n = get_or s.words 0 0 in let w = view v.key p in
      let h' = set s.homes 0 (some (Some value)) in let here = set_here s.homes 0 (some (Some value)) (omega arith) in (
        w,
        gives,
        tt,
        rewords s.words t h' (set s.views id w) kept.0
            (changes n t s.homes h' s.views id v w st at (others_beside n s.homes s.views id v st at (subst IsExclusive (sym sends) tt))
            (λ e. (value, here, fit e)) (λ e. (value, here, wait e)) made (claims h')),
        (refl, refl),
      ))

  -- the seat that fetched gives the empty slot home
  pub returns_slot : (slots id : ℕ) (v : View K) (me : Me (Option T) (View K)) → me ≡ (v, (0, None) ∷ []) → v.role ≡ Fetched → Allows (IsKept fits may_wait) slots id me 0 (λ n. n) (λ _ w. Becomes Fetched w)
  returns_slot slots id v me holds fetched = subst (λ (m : Me (Option T) (View K)). Allows (IsKept fits may_wait) slots id m 0 (λ n. n) (λ _ w. Becomes Fetched w)) (sym holds) (λ s kept wide at _.
      let st = kept.1 in let n = get_or s.words 0 0 in let h' = set s.homes 0 (some None) in
      let taken : n ≡ 2 = subst (λ (q : Role). Knows n s.homes q) fetched (st.known id v at) in (
        v,
        gives,
        tt,
        rewords s.words n h' (set s.views id v) kept.0
            (changes n n s.homes h' s.views id v v st at (others_beside n s.homes s.views id v st at (subst IsExclusive (sym fetched) tt))
            (λ e. absurd (omega arith)) (λ e. absurd (omega arith)) (subst (IsMadeBy n) (sym fetched) taken) (subst (λ (q : Role). Knows n h' q) (sym fetched) taken)),
        (fetched, refl),
      ))

  -- another seat is joined into the one that fetched
  pub joins_fetched : (id : ℕ) (v : View K) (other : ℕ) (w : View K) → v.role ≡ Fetched → Joins (IsKept fits may_wait) id v other w (view v.key (joined_role w.role)) blank
  joins_fetched id v other w fetched s kept at ne at' = let st = kept.1 in let n = get_or s.words 0 0 in let both = view v.key (joined_role w.role) in
      ⊎_elim (λ (x : w.role ≡ Fetched).
      let there : get_elem? s.views other ≡ some w = ⊎_elim (λ (y : (other ≡ id) × (both ≡ w)). absurd (ne y.0)) (λ (y : (other ≢ id) × (get_elem? s.views other ≡ some w)). y.1) (at_set s.views id other both w at') in
      absurd (ne (st.exclusive other id w v there at (subst IsExclusive (sym x) tt) (subst IsExclusive (sym fetched) tt))))
      (λ (e : joined_role w.role ≡ Fetched).
      let same : set s.views id both ≡ s.views = ap (λ (p : Role). set s.views id (view v.key p)) (e ∙ sym fetched) ∙ set_again s.views id v at in
      let taken : n ≡ 2 = subst (λ (q : Role). Knows n s.homes q) fetched (st.known id v at) in (
        kept.0,
        subst (λ (vs : List (View K)). IsLawful fits may_wait n s.homes (set vs other blank)) (sym same)
            (looks_again n s.homes s.views other None _ st (id, v, at, (λ (i : id ≡ other). ne (sym i)), subst (IsMadeBy n) (sym fetched) taken)),
      ))
      (join_cases w.role)

  -- no seat has the role that two that fetched would have together
  pub fetched_alone : (slots id : ℕ) (me : Me (Option T) (View K)) → Allows (IsKept fits may_wait) slots id me 0 (λ n. n) (λ _ _. me.0.role ≢ Never)
  fetched_alone slots id me s kept wide at _ = let v = me.0 in let st = kept.1 in let n = get_or s.words 0 0 in (
    v,
    keeps,
    tt,
    rewords s.words n s.homes (set s.views id v) kept.0 (subst (λ (vs : List (View K)). IsLawful fits may_wait n s.homes vs) (sym (set_again s.views id v at)) st),
    λ e. subst (λ (q : Role). Knows n s.homes q) e (st.known id v at),
  )

  -- a new seat looks
  pub looks : (slots : ℕ) (k : Option K) (held : List (ℕ × Option T)) → Enters (IsKept fits may_wait) slots 0 (λ n w. Looks (view k Maker, held) n (w, []))
  looks slots k held s kept wide _ = let n = get_or s.words 0 0 in let st = kept.1 in
      (view k (Saw (state_of n)), (kept.0, new_looks n s.homes s.views k (state_of n) st), (is_state n st.made.1.role st.made.3, refl))

module _ {T K : Type 0} (fits may_wait P : K → T → Type 0) (key : K) where
  -- if the word is `old`, a seat that looked takes the slot with its value, and the word becomes `new`
  takes_value : (old new : ℕ) (p : Role) (slots id : ℕ) (v : View K) (saw : CellState) (me : Me (Option T) (View K)) → me ≡ (v, []) → v.key ≡ Some key → v.role ≡ Saw saw
      → old ≢ 0 → old ≢ 2 → new ≢ 1 → new ≢ 3 → IsMadeBy new p → ((h : List (maybe.Option (Option T))) → Knows new h p)
      → ((h : List (maybe.Option (Option T))) (views : List (View K)) → IsLawful (fits key) (may_wait key) old h views → IsHome (P key) h)
      → Allows (IsKept (fits key) (may_wait key)) slots id me 0 (λ n. either (n == old) new n) (Takes P old p me)
  takes_value old new p slots id v saw me empty_handed keyed looked ne_zero ne_two ne_one ne_three made claims lies =
      subst (λ (m : Me (Option T) (View K)). Allows (IsKept (fits key) (may_wait key)) slots id m 0 (λ n. either (n == old) new n) (Takes P old p m)) (sym empty_handed) (λ s kept wide at _. exchanged (get_or s.words 0 0) old new
      (λ (m : ℕ). (w : View K) × (a : table.Act (Option T)) × table.Valid s.homes [] a × IsKept (fits key) (may_wait key) (table.stepped s 0 m id [] w a) × Takes P old p (v, []) (get_or s.words 0 0) (w, table.carried_after [] a))
      (λ found. let st = subst (λ (n : ℕ). IsLawful (fits key) (may_wait key) n s.homes s.views) found kept.1 in let x = lies s.homes s.views st in let h' = set s.homes 0 none in let w = view v.key p in (
        w,
        takes 0 (Some x.0),
        x.1,
        rewords (fits key) (may_wait key) s.words new h' (set s.views id w) kept.0
            (changes (fits key) (may_wait key) old new s.homes h' s.views id v w st at (none_exclusive (fits key) (may_wait key) old s.homes s.views id st ne_zero ne_two) (λ e. absurd (ne_one e)) (λ e. absurd (ne_three e)) made (claims h')),
        (λ _. (x.0, refl, λ key' e. subst (λ (k : K). P k x.0) (some_key key' e) x.2), λ ne. absurd (ne found)),
      ))
      (λ ne. let n = get_or s.words 0 0 in let st = kept.1 in let w = view v.key (Saw (state_of n)) in (
        w,
        keeps,
        tt,
        rewords (fits key) (may_wait key) s.words n s.homes (set s.views id w) kept.0
            (looks_again (fits key) (may_wait key) n s.homes s.views id v.key (state_of n) st (maker_other (fits key) (may_wait key) n s.homes s.views id v saw st at looked)),
        (λ e. absurd (ne e), λ _. (is_state n st.made.1.role st.made.3, refl)),
      )))
    where
      some_key : (key' : K) → v.key ≡ Some key' → key ≡ key'
      some_key key' e = let both : Some key ≡ Some key' = sym keyed ∙ e in cc

module _ {T K : Type 0} (fits may_wait : K → T → Type 0) (key : K) where
  -- if the cell is full, the seat takes the value that fits
  pub fetches : (slots id : ℕ) (v : View K) (saw : CellState) (me : Me (Option T) (View K)) → me ≡ (v, []) → v.key ≡ Some key → v.role ≡ Saw saw
      → Allows (IsKept (fits key) (may_wait key)) slots id me 0 (λ n. either (n == 1) 2 n) (Takes fits 1 Fetched me)
  fetches slots id v saw me empty_handed keyed looked = takes_value fits may_wait fits key 1 2 Fetched slots id v saw me empty_handed keyed looked
      (λ e. omega arith) (λ e. omega arith) (λ e. omega arith) (λ e. omega arith) refl (λ h. refl) (λ h views st. st.full refl)

  -- if a value waits, the seat takes it and is the sending end
  pub takes_back : (slots id : ℕ) (v : View K) (saw : CellState) (me : Me (Option T) (View K)) → me ≡ (v, []) → v.key ≡ Some key → v.role ≡ Saw saw
      → Allows (IsKept (fits key) (may_wait key)) slots id me 0 (λ n. either (n == 3) 0 n) (Takes may_wait 3 Sender me)
  takes_back slots id v saw me empty_handed keyed looked = takes_value fits may_wait may_wait key 3 0 Sender slots id v saw me empty_handed keyed looked
      (λ e. omega arith) (λ e. omega arith) (λ e. omega arith) (λ e. omega arith) refl (λ h. refl) (λ h views st. st.waiting refl)
