-- The threads at home are those that were posted and have not ended.
use Rattle.std.proofs.Common.{◌≡◌, ℕ, zero, suc, ◌+◌, ◌*◌, ◌<◌, ◌≤◌, inl, inr, Bool, true, false, cond, eqb, List, [], ◌∷◌, ◌++◌, map, Option, None, Some, refl, sym, ap, ◌∙◌, subst, arith, add-one, append-nil}
use Rattle.std.proofs.lemmas.Bool.{cases_eq, cases_lt, eqb-true, eq-eqb, and_parts, and_from, and_right, lt-ltb, ltb-true, false_from_ne_true, cond-false}
use Rattle.std.proofs.lemmas.List.{map-append, Sums.sum_by-append}
use Rattle.arachne_core.specs.declared.{thread_id.ThreadId.ThreadId, state.State.State}
use Rattle.arachne_core.specs.{declared.state.State.TheVariants.{Ready, Blocked, Held}, ContextTable.times}
use Rattle.arachne_core.specs.World.{World, Thread, IsContext, id_of, same_thread}
use Rattle.arachne_core.{specs.OwnedOnce.{OwnedOnce, is_live, has_thread}, proofs.Changes.same_thread-true}
use Rattle.arachne_contexts.specs.Answers.{IsByContext}
use Rattle.arachne_locked.specs.{AtHome.{value_at, IsHome, IsKeptAt}, Calls.IsHeld}
use Rattle.arachne_locked.specs.Closing.{HoldsNone, one_at, at_rest_below, IsAccounted}

same_truth : (a b : Bool) → (a ≡ true → b ≡ true) → (b ≡ true → a ≡ true) → a ≡ b
same_truth true b f g = sym (f refl)
same_truth false true f g = g refl
same_truth false false f g = refl

module _ {T : Type 0} (tag : T → ℕ) (w : World) (vs : List (Option T)) where
  abbrev thread : ThreadId × T → Thread
  thread r = (r.0, tag r.1)

  abbrev hits : ℕ → Option T → Thread → ℕ
  hits x o t = times (map thread (one_at w x o)) t

  -- the threads below n, counted
  abbrev hits_below : ℕ → Thread → ℕ
  hits_below n t = times (map thread (at_rest_below w vs n)) t

  next : (n : ℕ) (t : Thread) → hits_below (suc n) t ≡ hits_below n t + hits n (value_at vs n) t
  next n t =
      ap (λ xs. times xs t) (map-append thread (at_rest_below w vs n) (one_at w n (value_at vs n)))
      ∙ sum_by-append (λ x. cond (same_thread t x) 1 0) (map thread (at_rest_below w vs n)) (map thread (one_at w n (value_at vs n)))

  elsewhere : (x : ℕ) (o : Option T) (t : Thread) → (t.0.context ≡ x → ⊥) → hits x o t ≡ 0
  elsewhere x None t n = refl
  elsewhere x (Some v) t n =
      let e = cond-false {A = ℕ} (same_thread t (id_of w x, tag v)) 1 0 (false_from_ne_true _ (λ h. n (ap (λ (u : Thread). u.0.context) (same_thread-true t (id_of w x, tag v) h)))) in
      omega (arith, e)

  pub none_below : (n : ℕ) (t : Thread) → n ≤ t.0.context → hits_below n t ≡ 0
  none_below zero t h = refl
  none_below (suc n) t h =
      let rest = none_below n t (omega (arith, h)) in
      let here = elsewhere n (value_at vs n) t (λ e. absurd (omega (arith, e, h))) in next n t ∙ (omega (arith, rest, here))

  pub one_below : (n : ℕ) (t : Thread) → t.0.context < n → hits_below n t ≡ hits t.0.context (value_at vs t.0.context) t
  one_below zero t h = absurd (omega arith)
  one_below (suc n) t h = elim (cases_eq t.0.context n) [
    | inl e ↦
        let rest = none_below n t (omega (arith, e)) in
        let here = ap (λ x. hits x (value_at vs x) t) e in next n t ∙ (omega (arith, rest, here))
    | inr e ↦
        let rest = one_below n t (omega (arith, e, h)) in
        let here = elsewhere n (value_at vs n) t e in next n t ∙ (omega (arith, rest, here))
  ]

  -- a live thread is in its context, a thread that isn't live is not
  found : (t : Thread) (v : T) (tg : ℕ) → IsContext w t.0.context → has_thread (w.state t.0.context) t.1 ≡ eqb tg t.1 → tag v ≡ tg
      → hits t.0.context (Some v) t ≡ cond (is_live w t) 1 0
  found t v tg c s tagged =
      let x = t.0.context in
      let same : same_thread t (id_of w x, tag v) ≡ is_live w t = same_truth (same_thread t (id_of w x, tag v)) (is_live w t)
      (λ e.
      let q = same_thread-true t (id_of w x, tag v) e in
      let g : t.0.generation ≡ w.generation x = ap (λ (u : Thread). u.0.generation) q in
      let n : t.1 ≡ tag v = ap (λ (u : Thread). u.1) q in
      and_from _ _ (and_from _ _ (lt-ltb _ _ c) (eq-eqb _ _ (sym g))) (s ∙ eq-eqb tg t.1 (sym tagged ∙ sym n)))
      (λ e.
      let p = and_parts _ _ e in
      let q = and_parts _ _ p.0 in
      let g : w.generation x ≡ t.0.generation = eqb-true _ _ q.1 in
      let n : tg ≡ t.1 = eqb-true tg t.1 (sym s ∙ p.1) in
      and_from _ _ (and_from _ _ (eq-eqb x x refl) (eq-eqb _ _ (sym g))) (eq-eqb t.1 (tag v) (sym n ∙ sym tagged))) in
      let e = ap {B = ℕ} (λ (b : Bool). cond b 1 0) same in omega (arith, e)

  missed : (t : Thread) (o : Option T) → o ≡ None → has_thread (w.state t.0.context) t.1 ≡ false → hits t.0.context o t ≡ cond (is_live w t) 1 0
  missed t o none s =
      ap (λ a. hits t.0.context a t) none ∙ sym (cond-false (is_live w t) 1 0 (and_right _ _ s))

  here : (t : Thread) (s : State) (o : Option T) → IsContext w t.0.context → w.state t.0.context ≡ s → IsKeptAt tag s o → (IsHeld s → ⊥)
      → hits t.0.context o t ≡ cond (is_live w t) 1 0
  here t (Held h u tg) o c e k n = absurd (n tt)
  here t (Ready tg) (Some v) c e k n = found t v tg c (ap (λ a. has_thread a t.1) e) k
  here t (Ready tg) None c e k n = absurd k
  here t (Blocked tg) (Some v) c e k n = found t v tg c (ap (λ a. has_thread a t.1) e) k
  here t (Blocked tg) None c e k n = absurd k
  here t _ o c e k n = missed t o k (ap (λ a. has_thread a t.1) e)

  counted : IsHome tag w vs → HoldsNone w → (t : Thread) → hits_below (w.cores * w.slots) t ≡ cond (is_live w t) 1 0
  counted home none t = elim (cases_lt t.0.context (w.cores * w.slots)) [
    | inl h ↦ one_below (w.cores * w.slots) t h ∙ here t (w.state t.0.context) (value_at vs t.0.context) h refl (home.kept t.0.context h) (none t.0.context h)
    | inr h ↦
        none_below (w.cores * w.slots) t h
        ∙ sym (cond-false (is_live w t) 1 0 (false_from_ne_true (is_live w t) (λ e. absurd (let k : t.0.context < w.cores * w.slots = ltb-true _ _ (and_parts _ _ (and_parts _ _ e).0).0 in omega (arith, k, h)))))
  ]

  given_is : (t : Thread) (b : Bool) (given ended n : ℕ) → given ≡ cond b (ended + 1) ended → n ≡ cond b 1 0 → given ≡ ended + n
  given_is t true given ended n g h = omega (arith, g, h)
  given_is t false given ended n g h = omega (arith, g, h)

  pub accounted : OwnedOnce w → IsHome tag w vs → IsAccounted tag w (at_rest_below w vs (w.cores * w.slots))
  accounted owned home = record {
    once = owned.once;
    all = λ none t. given_is t (is_live w t) (w.given t) (w.ended t) (hits_below (w.cores * w.slots) t) (owned.live t) (counted home none t);
  }

-- ---- the order of the contexts

abbrev AllBelow : {T : Type 0} → ℕ → List (ThreadId × T) → Type 0
AllBelow n [] = Unit {0}
AllBelow n (t ∷ ts) = (t.0.context < n) × AllBelow n ts

below_more : {T : Type 0} (n : ℕ) (ts : List (ThreadId × T)) → AllBelow n ts → AllBelow (suc n) ts
below_more n [] b = tt
below_more n (t ∷ ts) b = ((let h = b.0 in omega (arith, h)), below_more n ts b.1)

below_append : {T : Type 0} (n : ℕ) (ts us : List (ThreadId × T)) → AllBelow n ts → AllBelow n us → AllBelow n (ts ++ us)
below_append n [] us b c = c
below_append n (t ∷ ts) us b c = (b.0, below_append n ts us b.1 c)

order_more : {T : Type 0} (n : ℕ) (ts : List (ThreadId × T)) (u : ThreadId × T) → IsByContext ts → AllBelow n ts → u.0.context ≡ n → IsByContext (ts ++ u ∷ [])
order_more n [] u o b e = tt
order_more n (t ∷ []) u o b e = ((let h = b.0 in omega (arith, h, e)), tt)
order_more n (t ∷ v ∷ ts) u o b e = (o.0, order_more n (v ∷ ts) u o.1 b.1 e)

module _ {T : Type 0} (w : World) (vs : List (Option T)) where
  one_below_next : (n : ℕ) (o : Option T) → AllBelow (suc n) (one_at w n o)
  one_below_next n None = tt
  one_below_next n (Some v) = (omega arith, tt)

  all_below : (n : ℕ) → AllBelow n (at_rest_below w vs n)
  all_below zero = tt
  all_below (suc n) = below_append (suc n) (at_rest_below w vs n) (one_at w n (value_at vs n)) (below_more n (at_rest_below w vs n) (all_below n)) (one_below_next n (value_at vs n))

  one_order : (n : ℕ) (ts : List (ThreadId × T)) (o : Option T) → IsByContext ts → AllBelow n ts → IsByContext (ts ++ one_at w n o)
  one_order n ts None b a = subst IsByContext (sym (append-nil ts)) b
  one_order n ts (Some v) b a = order_more n ts (id_of w n, v) b a refl

  pub by_context : (n : ℕ) → IsByContext (at_rest_below w vs n)
  by_context zero = tt
  by_context (suc n) = one_order n (at_rest_below w vs n) (value_at vs n) (by_context n) (all_below n)

  -- one context more, with a thread at rest or without
  pub rest_with : (n : ℕ) (before after : List (ThreadId × T)) (id : ThreadId) (v : T) → before ≡ at_rest_below w vs n → value_at vs n ≡ Some v → id ≡ id_of w n
      → after ≡ before ++ (id, v) ∷ [] → after ≡ at_rest_below w vs (n + 1)
  rest_with n before after id v so_far here named made =
      made ∙ ap (λ xs. xs ++ (id, v) ∷ []) so_far ∙ ap (λ i. at_rest_below w vs n ++ (i, v) ∷ []) named
      ∙ ap (λ o. at_rest_below w vs n ++ one_at w n o) (sym here) ∙ ap (at_rest_below w vs) (sym (add-one n))

  pub rest_without : (n : ℕ) (before after : List (ThreadId × T)) → before ≡ at_rest_below w vs n → value_at vs n ≡ None
      → after ≡ before → after ≡ at_rest_below w vs (n + 1)
  rest_without n before after so_far here made =
      made ∙ so_far ∙ sym (append-nil (at_rest_below w vs n))
      ∙ ap (λ o. at_rest_below w vs n ++ one_at w n o) (sym here) ∙ ap (at_rest_below w vs) (sym (add-one n))
