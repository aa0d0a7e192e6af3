-- A reduction over a range is that over its halves, joined by the operation.
use Rattle.std.proofs.Common.{◌≡◌, ℕ, zero, suc, ◌+◌, ◌*◌, ◌^◌, ◌<◌, refl, ap, sym, ◌∙◌, arith, add_assoc}
use Rattle.std.proofs.Math.Nat.{mul_assoc, mod-eq_of_lt, mod-add-mod, add-mod-mod}
use Rattle.std.{proofs.lemmas.Nat.{mul-mod_first, mul-mod_second}, specs.Int.Bits.{xor_assoc, xor_zero_r}}
use Rattle.arachne_program.specs.declared.program.Reduction.{Reduction}
use Rattle.arachne_program.specs.declared.program.Reduction.TheVariants.{Sum, Product, Parity, Least, Greatest}
use Rattle.arachne_program.specs.Value.{wrapped, apply, operation_of, unit_of, turns}

apply-assoc : (r : Reduction) (a b c : ℕ) → apply (operation_of r) (apply (operation_of r) a b) c ≡ apply (operation_of r) a (apply (operation_of r) b c)
apply-assoc Sum a b c = mod-add-mod (a + b) (2 ^ 64) c ∙ ap wrapped (add_assoc a b c) ∙ sym (add-mod-mod a (b + c) (2 ^ 64))
apply-assoc Product a b c = mul-mod_first (a * b) c (2 ^ 64) ∙ ap wrapped (mul_assoc a b c) ∙ sym (mul-mod_second a (b * c) (2 ^ 64))
apply-assoc Parity a b c = xor_assoc a b c
apply-assoc Least a b c = omega arith
apply-assoc Greatest a b c = omega arith

apply-unit : (r : Reduction) (a : ℕ) → a < 2 ^ 64 → a ≡ apply (operation_of r) a (unit_of r)
apply-unit Sum a fits = let same : a + 0 ≡ a = omega arith in rw same (sym (mod-eq_of_lt fits))
apply-unit Product a fits = let same : a * 1 ≡ a = omega arith in rw same (sym (mod-eq_of_lt fits))
apply-unit Parity a fits = sym (xor_zero_r a)
apply-unit Least a fits = omega arith
apply-unit Greatest a fits = omega arith

-- iterations after others go on from their result
turns-after : (step : ℕ → ℕ → ℕ) (m n first : ℕ) → turns step (m + n) first ≡ turns (λ j. step (m + j)) n (turns step m first)
turns-after step m zero first = let same : m + 0 ≡ m = omega arith in ap (λ (k : ℕ). turns step k first) same
turns-after step m (suc n) first =
    let same : m + suc n ≡ suc (m + n) = omega arith in
    ap (λ (k : ℕ). turns step k first) same ∙ ap (step (m + n)) (turns-after step m n first)

turns-from : (r : Reduction) (f : ℕ → ℕ) (n first : ℕ) → first < 2 ^ 64
    → turns (λ j so_far. apply (operation_of r) so_far (f j)) n first
    ≡ apply (operation_of r) first (turns (λ j so_far. apply (operation_of r) so_far (f j)) n (unit_of r))
turns-from r f zero first fits = apply-unit r first fits
turns-from r f (suc n) first fits =
    ap (λ (x : ℕ). apply (operation_of r) x (f n)) (turns-from r f n first fits)
    ∙ apply-assoc r first (turns (λ j so_far. apply (operation_of r) so_far (f j)) n (unit_of r)) (f n)

turns-same : (r : Reduction) (f g : ℕ → ℕ) (n first : ℕ) → ((j : ℕ) → f j ≡ g j)
    → turns (λ j so_far. apply (operation_of r) so_far (f j)) n first ≡ turns (λ j so_far. apply (operation_of r) so_far (g j)) n first
turns-same r f g zero first same = refl
turns-same r f g (suc n) first same = rw (turns-same r f g n first same, same n) refl

-- the reduction of n values of a function, from the one at `first` on
abbrev over : Reduction → (ℕ → ℕ) → ℕ → ℕ → ℕ
over r f first n = turns (λ j so_far. apply (operation_of r) so_far (f (first + j))) n (unit_of r)

pub over-halves : (r : Reduction) (f : ℕ → ℕ) (first m n : ℕ) → over r f first m < 2 ^ 64
    → apply (operation_of r) (over r f first m) (over r f (first + m) n) ≡ over r f first (m + n)
over-halves r f first m n fits =
    sym (turns-after (λ j so_far. apply (operation_of r) so_far (f (first + j))) m n (unit_of r)
    ∙ turns-from r (λ j. f (first + (m + j))) n (over r f first m) fits
    ∙ ap (apply (operation_of r) (over r f first m))
    (turns-same r (λ j. f (first + (m + j))) (λ j. f (first + m + j)) n (unit_of r) (λ j. ap f (sym (add_assoc first m j)))))
