-- Sums of one share, ledger by ledger.
use Rattle.std.proofs.Common.{◌≡◌, ℕ, zero, suc, ◌+◌, ◌%◌, ◌^◌, ◌<◌, List, [], ◌∷◌, ◌++◌, length, map, take, replicate, get_or, sym, refl, ap, ◌∙◌, arith}
use Rattle.std.proofs.lemmas.List.{map_more}
use mathlib.Core.Option.{some, some-injective, some-ne-none}
use lib.ListN.{get_elem?}
use Rattle.arachne_ledger.specs.Sums.{plus}

-- the item at a place is the one that a look-up finds
pub get_or-at : (xs : List ℕ) (i n : ℕ) → get_elem? xs i ≡ some n → get_or xs i 0 ≡ n
get_or-at [] i n e = absurd (some-ne-none n (sym e))
get_or-at (x ∷ xs) zero n e = some-injective x n e
get_or-at (x ∷ xs) (suc i) n e = get_or-at xs i n e

pub zeros-at : (n i : ℕ) → get_or {A = ℕ} (replicate n 0) i 0 ≡ 0
zeros-at zero i = refl
zeros-at (suc n) zero = refl
zeros-at (suc n) (suc i) = zeros-at n i

pub plus-at : (xs ys : List ℕ) (i : ℕ) → get_or (plus xs ys) i 0 ≡ get_or xs i 0 + get_or ys i 0
plus-at [] ys i = omega arith
plus-at (x ∷ xs) [] i = omega arith
plus-at (x ∷ xs) (y ∷ ys) zero = refl
plus-at (x ∷ xs) (y ∷ ys) (suc i) = plus-at xs ys i

pub length-plus : (xs ys : List ℕ) → length xs ≡ length ys → length (plus xs ys) ≡ length xs
length-plus [] [] e = refl
length-plus [] (y ∷ ys) e = absurd (omega arith)
length-plus (x ∷ xs) [] e = absurd (omega arith)
length-plus (x ∷ xs) (y ∷ ys) e = ap suc (length-plus xs ys (omega arith))

-- one sum more, reduced
pub reduced-more : (sums before after : List ℕ) (i found : ℕ) → i < length sums → before ≡ map (λ sum. sum % 2 ^ 64) (take i sums) → found ≡ get_or sums i 0 % 2 ^ 64 → after ≡ before ++ found ∷ []
    → after ≡ map (λ sum. sum % 2 ^ 64) (take (i + 1) sums)
reduced-more sums before after i found inside so_far e added =
    added ∙ ap (λ xs. xs ++ found ∷ []) so_far ∙ ap (λ n. map (λ sum. sum % 2 ^ 64) (take i sums) ++ n ∷ []) e ∙ sym (map_more (λ sum. sum % 2 ^ 64) sums i 0 inside)
