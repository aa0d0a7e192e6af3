-- The number of numbers that pass a test, if the test changes at one of them.
use Rattle.std.proofs.Common.{◌≡◌, ℕ, zero, suc, ◌+◌, ◌*◌, ◌<◌, ◌≤◌, inl, inr, Bool, true, false, refl, sym, ap, ◌∙◌, arith}
use Rattle.std.proofs.lemmas.Bool.{cases_eq}
use Rattle.arachne_core.specs.{Occupancy.bit, declared.state.State.State, World.{World, IsContext}}
use Rattle.arachne_locked.specs.Room.{count_below, contexts_in}

bit_most : (b : Bool) → bit b ≤ 1
bit_most true = omega arith
bit_most false = omega arith

pub count_most : (n : ℕ) (f : ℕ → Bool) → count_below n f ≤ n
count_most zero f = omega arith
count_most (suc n) f = omega (arith, count_most n f, bit_most (f n))

pub count_same : (n : ℕ) (f g : ℕ → Bool) → ((y : ℕ) → y < n → g y ≡ f y) → count_below n g ≡ count_below n f
count_same zero f g same = refl
count_same (suc n) f g same =
    let rest = count_same n f g (λ y h. same y (omega arith)) in
    let here = ap bit (same n (omega arith)) in omega (arith, rest, here)

pub count_changed : (n x : ℕ) (f g : ℕ → Bool) → x < n → ((y : ℕ) → (y ≡ x → ⊥) → g y ≡ f y) → count_below n g + bit (f x) ≡ count_below n f + bit (g x)
count_changed zero x f g h same = absurd (omega arith)
count_changed (suc n) x f g h same = elim (cases_eq x n) [
  | inl q ↦
      let rest = count_same n f g (λ y k. same y (λ e. absurd (omega arith))) in
      let one = ap (λ z. bit (f z)) q in
      let two = ap (λ z. bit (g z)) q in omega (arith, rest, one, two)
  | inr q ↦
      let rest = count_changed n x f g (omega arith) same in
      let here = ap bit (same n (λ e. q (sym e))) in omega (arith, rest, here)
]

pub count_positive : (n x : ℕ) (f : ℕ → Bool) → x < n → f x ≡ true → 1 ≤ count_below n f
count_positive zero x f h t = absurd (omega arith)
count_positive (suc n) x f h t = elim (cases_eq x n) [
  | inl q ↦ let one = ap bit (ap f (sym q) ∙ t) in omega (arith, one)
  | inr q ↦ let rest = count_positive n x f (omega arith) t in omega (arith, rest)
]

-- the state of one context has changed
pub contexts_set : (test : State → Bool) (w u : World) (x : ℕ) → u.cores ≡ w.cores → u.slots ≡ w.slots → ((y : ℕ) → (y ≡ x → ⊥) → u.state y ≡ w.state y) → IsContext w x
    → contexts_in test u + bit (test (w.state x)) ≡ contexts_in test w + bit (test (u.state x))
contexts_set test w u x cores slots others within =
    let sizes : u.cores * u.slots ≡ w.cores * w.slots = (λ i. cores i * slots i) in
    let count = ap (λ m. count_below m (λ y. test (u.state y))) sizes in
    let changed = count_changed (w.cores * w.slots) x (λ y. test (w.state y)) (λ y. test (u.state y)) within (λ y h. ap test (others y h)) in
    omega (arith, count, changed)

-- no state was changed
pub contexts_kept : (test : State → Bool) (w u : World) → u.cores ≡ w.cores → u.slots ≡ w.slots → ((y : ℕ) → u.state y ≡ w.state y)
    → contexts_in test u ≡ contexts_in test w
contexts_kept test w u cores slots states =
    ap (λ m. count_below m (λ y. test (u.state y))) (λ i. cores i * slots i)
    ∙ count_same (w.cores * w.slots) (λ y. test (w.state y)) (λ y. test (u.state y)) (λ y h. ap test (states y))
