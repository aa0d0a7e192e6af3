-- The meaning of the word 0, and when a word shows an empty core.
use Rattle.std.proofs.Common.{◌≡◌, ℕ, zero, suc, ◌^◌, ◌<◌, ◌⊎◌, inl, inr, Bool, true, false, List, [], ◌∷◌, length, get_or, replicate, refl, sym, ap, ◌∙◌, arith, EachIndex, true≢false}
use Rattle.std.proofs.lemmas.List.{get_or-replicate, length-replicate}
use Rattle.arachne_core.specs.declared.layout.TheConstants.{MASK_BITS}
use Rattle.arachne_core.specs.Occupancy.{Occupancy, bit, mask_of, occupancy_of, flags}

none_set : flags MASK_BITS 0 ≡ replicate MASK_BITS false
unfolding flags
none_set = refl

-- the word of a core that is exclusive, or has an occupied index, is not 0
pub in_use : (o : Occupancy) (word : ℕ) → occupancy_of word ≡ o → (o.exclusive ≡ true) ⊎ (EachIndex o.occupied (λ i. get_or o.occupied i false ≡ false) → ⊥) → word ≡ 0 → ⊥
in_use o word reads (inl e) none = true≢false (sym e ∙ sym (ap (λ (p : Occupancy). p.exclusive) reads) ∙ ap (λ n. (occupancy_of n).exclusive) none)
in_use o word reads (inr n) none =
    let is : o.occupied ≡ replicate MASK_BITS false = sym (ap (λ (p : Occupancy). p.occupied) reads) ∙ ap (λ k. (occupancy_of k).occupied) none ∙ none_set in
    n (λ i h. ap (λ xs. get_or xs i false) is ∙ get_or-replicate MASK_BITS i false false (let l = ap length is ∙ length-replicate MASK_BITS false in omega (arith, l, h)))

-- a mask of 0 has no flag that is true
pub none_masked : (xs : List Bool) → mask_of xs ≡ 0 → (i : ℕ) → get_or xs i false ≡ false
none_masked [] e i = refl
none_masked (true ∷ xs) e i = absurd (omega (arith, e))
none_masked (false ∷ xs) e zero = refl
none_masked (false ∷ xs) e (suc i) = none_masked xs (omega (arith, e)) i

-- a mask of n bits of which none is set is 0
pub all_free : (n : ℕ) (xs : List Bool) → mask_of xs < 2 ^ n → ((i : ℕ) → i < n → get_or xs i false ≡ false) → mask_of xs ≡ 0
all_free n [] short free = refl
all_free zero (x ∷ xs) short free = omega (arith, short)
all_free (suc n) (x ∷ xs) short free =
    let first = ap bit (free 0 (omega arith)) in
    let others = all_free n xs (omega (arith, short, first)) (λ i h. free (suc i) (omega (arith, h))) in omega (arith, first, others)
