-- Two lists in which each tag stands as often are of one length.
use Rattle.std.proofs.Common.{◌≡◌, ◌≢◌, ℕ, ◌+◌, ◌≤◌, ◌==◌, if◌then◌else◌, List, [], ◌∷◌, ◌++◌, length, sym, refl, ap, ◌∙◌, arith, eq-eqb, ne_eqb, length-append}
use Rattle.std.proofs.lemmas.List.Sums.{sum_by-append, sum_by-cons}
use mathlib.Core.Logic.{dite}
use native.Mathlib.Decide.{ℕ_discrete}
use Rattle.arachne_jobs.specs.Balance.{times}

-- 1 at the tag, and 0 at others
abbrev one : ℕ → ℕ → ℕ
one tag other = if other == tag then 1 else 0

one-same : (tag other : ℕ) → other ≡ tag → one tag other ≡ 1
one-same tag other e = ap (λ b. if b then 1 else 0) (eq-eqb other tag e)

one-apart : (tag other : ℕ) → other ≢ tag → one tag other ≡ 0
one-apart tag other d = ap (λ b. if b then 1 else 0) (ne_eqb other tag d)

-- what is left of a list without a tag that stands in it
without : (tag : ℕ) (ys : List ℕ) → 1 ≤ times tag ys → (rest : List ℕ) × ((t : ℕ) → times t ys ≡ one t tag + times t rest) × (length ys ≡ length rest + 1)
without tag [] some = absurd (omega (arith, some))
without tag (y ∷ ys) some = dite (ℕ_discrete y tag)
    (λ same. (ys, (λ t. sum_by-cons (one t) y ys ∙ ap (λ n. one t n + times t ys) same), omega arith))
    (λ apart. let (rest, counts, long) = without tag ys (omega (arith, some, sum_by-cons (one tag) y ys, one-apart tag y apart)) in
    (y ∷ rest, (λ t. omega (arith, sum_by-cons (one t) y ys, sum_by-cons (one t) y rest, counts t)), omega (arith, long)))

pub same-length : (xs ys : List ℕ) → ((tag : ℕ) → times tag xs ≡ times tag ys) → length xs ≡ length ys
same-length [] [] same = refl
same-length [] (y ∷ ys) same = absurd (omega (arith, same y, sum_by-cons (one y) y ys, one-same y y refl))
same-length (x ∷ xs) ys same =
    let (rest, counts, long) = without x ys (omega (arith, same x, sum_by-cons (one x) x xs, one-same x x refl)) in
    let fewer = same-length xs rest (λ tag. omega (arith, same tag, sum_by-cons (one tag) x xs, counts tag)) in
    omega (arith, long, fewer)

-- so a list that is two others by its tags is as long as both
pub added-length : (xs ys zs : List ℕ) → ((tag : ℕ) → times tag xs ≡ times tag ys + times tag zs) → length xs ≡ length ys + length zs
added-length xs ys zs same = same-length xs (ys ++ zs) (λ tag. same tag ∙ sym (sum_by-append (one tag) ys zs)) ∙ length-append ys zs
