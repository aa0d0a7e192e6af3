-- Sets, maps and collections with one member changed: their values there, and elsewhere.
use Rattle.std.proofs.Common.{◌≡◌, ℕ, ◌+◌, Bool, true, false, cond, eqb, ◌⊎◌, inl, inr, refl, sym, ap, ◌∙◌}
use Rattle.std.proofs.lemmas.Bool.{eqb-true, eq-eqb, ne_eqb, and_parts, and_from, cases_Bool, true≢false, false_from_ne_true}
use Rattle.arachne_core.specs.{declared.place.Place.Place, declared.thread_id.ThreadId.ThreadId, Place.same_place}
use Rattle.arachne_core.specs.World.{Thread, with_at, with_place, with_thread, same_thread}

pub cond-true : {A : Type 0} (b : Bool) (x y : A) → b ≡ true → cond b x y ≡ x
cond-true b x y e = ap (λ v. cond v x y) e

pub cond-false : {A : Type 0} (b : Bool) (x y : A) → b ≡ false → cond b x y ≡ y
cond-false b x y e = ap (λ v. cond v x y) e

pub with_at-same : {A : Type 0} (f : ℕ → A) (x : ℕ) (v : A) → with_at f x v x ≡ v
with_at-same f x v = cond-true (eqb x x) v (f x) (eq-eqb x x refl)

pub with_at-other : {A : Type 0} (f : ℕ → A) (x : ℕ) (v : A) (y : ℕ) → (y ≡ x → ⊥) → with_at f x v y ≡ f y
with_at-other f x v y n = cond-false (eqb y x) v (f y) (ne_eqb y x n)

pub same_place-true : (p q : Place) → same_place p q ≡ true → p ≡ q
same_place-true p q e =
    let h = and_parts _ _ e in
    let a : p.core ≡ q.core = eqb-true p.core q.core h.0 in
    let b : p.index ≡ q.index = eqb-true p.index q.index h.1 in
    λ i. record { core = a i; index = b i }

pub same_place-refl : (p : Place) → same_place p p ≡ true
same_place-refl p = and_from _ _ (eq-eqb p.core p.core refl) (eq-eqb p.index p.index refl)

pub cases_place : (p q : Place) → (p ≡ q) ⊎ (p ≡ q → ⊥)
cases_place p q = elim (cases_Bool (same_place p q)) [
  | inl e ↦ inl (same_place-true p q e)
  | inr e ↦ inr (λ h. true≢false (sym (same_place-refl p) ∙ ap (same_place p) h ∙ e))
]

pub with_place-same : (s : Place → Bool) (p : Place) (b : Bool) → with_place s p b p ≡ b
with_place-same s p b = cond-true (same_place p p) b (s p) (same_place-refl p)

pub with_place-other : (s : Place → Bool) (p : Place) (b : Bool) (q : Place) → (q ≡ p → ⊥) → with_place s p b q ≡ s q
with_place-other s p b q n = cond-false (same_place q p) b (s q) (false_from_ne_true _ (λ e. n (same_place-true q p e)))

pub same_id : (a b : ThreadId) → a.context ≡ b.context → a.generation ≡ b.generation → a ≡ b
same_id a b e f = λ i. record { context = e i; generation = f i }

pub same_thread-true : (s t : Thread) → same_thread s t ≡ true → s ≡ t
same_thread-true s t e =
    let h = and_parts _ _ e in
    let k = and_parts _ _ h.0 in
    let a : s.0 ≡ t.0 = same_id s.0 t.0 (eqb-true _ _ k.0) (eqb-true _ _ k.1) in
    let b : s.1 ≡ t.1 = eqb-true _ _ h.1 in
    λ i. (a i, b i)

pub same_thread-refl : (t : Thread) → same_thread t t ≡ true
same_thread-refl t = and_from _ _ (and_from _ _ (eq-eqb t.0.context t.0.context refl) (eq-eqb t.0.generation t.0.generation refl)) (eq-eqb t.1 t.1 refl)

pub cases_thread : (s t : Thread) → (s ≡ t) ⊎ (s ≡ t → ⊥)
cases_thread s t = elim (cases_Bool (same_thread s t)) [
  | inl e ↦ inl (same_thread-true s t e)
  | inr e ↦ inr (λ h. true≢false (sym (same_thread-refl s) ∙ ap (same_thread s) h ∙ e))
]

pub with_thread-same : (f : Thread → ℕ) (t : Thread) → with_thread f t t ≡ f t + 1
with_thread-same f t = cond-true (same_thread t t) (f t + 1) (f t) (same_thread-refl t)

pub with_thread-other : (f : Thread → ℕ) (t s : Thread) → (s ≡ t → ⊥) → with_thread f t s ≡ f s
with_thread-other f t s n = cond-false (same_thread s t) (f s + 1) (f s) (false_from_ne_true _ (λ e. n (same_thread-true s t e)))
