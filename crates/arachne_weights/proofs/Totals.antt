-- Totals over a list of which one place is changed, or which grows by one.
use Rattle.std.proofs.Common.{◌≡◌, ◌≢◌, ℕ, zero, suc, ◌+◌, ◌≤◌, List, [], ◌∷◌, ◌++◌, set, sym, refl, ap, arith}
use Rattle.std.specs.List.{sum_by}
use Rattle.std.proofs.lemmas.List.Sums.{sum_by-cons, sum_by_push}
use mathlib.Core.Option.{some, some-injective, some-ne-none}
use lib.ListN.{get_elem?}

module _ {X : Type 0} (f : X → ℕ) where
  -- one place changed
  pub total-set : (xs : List X) (i : ℕ) (x y : X) → get_elem? xs i ≡ some x → sum_by f (set xs i y) + f x ≡ sum_by f xs + f y
  total-set [] i x y e = absurd (some-ne-none x (sym e))
  total-set (z ∷ xs) zero x y e = let same = ap f (some-injective z x e) in omega (arith, sum_by-cons f y xs, sum_by-cons f z xs)
  total-set (z ∷ xs) (suc i) x y e = omega (arith, total-set xs i x y e, sum_by-cons f z (set xs i y), sum_by-cons f z xs)

  -- one more at the end
  pub total-snoc : (xs : List X) (y : X) → sum_by f (xs ++ y ∷ []) ≡ sum_by f xs + f y
  total-snoc xs y = sum_by_push f xs y

  -- one place is within the total
  pub at-le-total : (xs : List X) (i : ℕ) (x : X) → get_elem? xs i ≡ some x → f x ≤ sum_by f xs
  at-le-total [] i x e = absurd (some-ne-none x (sym e))
  at-le-total (z ∷ xs) zero x e = let same = ap f (some-injective z x e) in omega (arith, sum_by-cons f z xs)
  at-le-total (z ∷ xs) (suc i) x e = omega (arith, at-le-total xs i x e, sum_by-cons f z xs)

  -- two places are within the total
  pub two-le-total : (xs : List X) (i j : ℕ) (x y : X) → get_elem? xs i ≡ some x → j ≢ i → get_elem? xs j ≡ some y → f x + f y ≤ sum_by f xs
  two-le-total [] i j x y e n d = absurd (some-ne-none x (sym e))
  two-le-total (z ∷ xs) zero zero x y e n d = absurd (n refl)
  two-le-total (z ∷ xs) zero (suc j) x y e n d = let same = ap f (some-injective z x e) in omega (arith, at-le-total xs j y d, sum_by-cons f z xs)
  two-le-total (z ∷ xs) (suc i) zero x y e n d = let same = ap f (some-injective z y d) in omega (arith, at-le-total xs i x e, sum_by-cons f z xs)
  two-le-total (z ∷ xs) (suc i) (suc j) x y e n d = omega (arith, two-le-total xs i j x y e (λ same. n (ap suc same)) d, sum_by-cons f z xs)

  -- nothing anywhere
  pub total-nothing : (xs : List X) → ((j : ℕ) (y : X) → get_elem? xs j ≡ some y → f y ≡ 0) → sum_by f xs ≡ 0
  total-nothing [] none = refl
  total-nothing (z ∷ xs) none = omega (arith, none 0 z refl, total-nothing xs (λ j y e. none (suc j) y e), sum_by-cons f z xs)

  -- nothing at any other place
  pub total-alone : (xs : List X) (i : ℕ) (x : X) → get_elem? xs i ≡ some x → ((j : ℕ) (y : X) → j ≢ i → get_elem? xs j ≡ some y → f y ≡ 0) → sum_by f xs ≡ f x
  total-alone [] i x e none = absurd (some-ne-none x (sym e))
  total-alone (z ∷ xs) zero x e none = let same = ap f (some-injective z x e) in let rest = total-nothing xs (λ j y d. none (suc j) y (λ h. omega arith) d) in omega (arith, sum_by-cons f z xs)
  total-alone (z ∷ xs) (suc i) x e none = let mine = none zero z (λ h. omega arith) refl in let rest = total-alone xs i x e (λ j y n d. none (suc j) y (λ h. n (omega arith)) d) in omega (arith, sum_by-cons f z xs)
