-- Lists of numbers are compared by their last number and those before it.
use Rattle.std.proofs.Common.{◌≡◌, ℕ, List, [], ◌∷◌, ◌++◌, ap, sym, ◌∙◌, Bool, true, false, rules, reverse, IsTrue, nat_eq}
use Rattle.std.proofs.lemmas.List.{reverse-append, reverse-reverse}
use lib.Pointwise.{pointwise}
use Rattle.std.specs.Cmp.Lexicographic.{same_text, other_text}

-- two lists with a last number each are the same only if their parts are
same_parts : (xs ys : List ℕ) (x y : ℕ) → xs ++ x ∷ [] ≡ ys ++ y ∷ [] → (xs ≡ ys) × (x ≡ y)
same_parts xs ys x y e =
    let r : x ∷ reverse xs ≡ y ∷ reverse ys = sym (reverse-append xs (x ∷ [])) ∙ ap reverse e ∙ reverse-append ys (y ∷ []) in
    let t : reverse xs ≡ reverse ys = cc in
    (sym (reverse-reverse xs) ∙ ap reverse t ∙ reverse-reverse ys, cc)

-- the result of comparing all of a list but its last number
pub decides_longer : (r : Bool) (list others front : List ℕ) (last number : ℕ) → list ≡ others ++ last ∷ [] → last ≡ number → r ≡ pointwise nat_eq others front →
    (IsTrue r → list ≡ front ++ number ∷ []) × (list ≡ front ++ number ∷ [] → IsTrue r)
decides_longer true list others front last number e l h =
    (λ t. e ∙ ap (λ xs. xs ++ last ∷ []) (same_text others front h) ∙ ap (λ k. front ++ k ∷ []) l, λ q. search rules)
decides_longer false list others front last number e l h =
    (λ t. absurd (search rules), λ q. absurd (other_text others front h (same_parts others front last number (sym e ∙ q)).0))
