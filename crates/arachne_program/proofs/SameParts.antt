-- Programs are the same if their parts are.
use Rattle.std.proofs.Common.{◌≡◌, ℕ, Bool, List, [], ◌∷◌, refl, subst, ap, Vec, Global, ◌&&◌, nat_eq, map}
use Rattle.std.specs.Bool.{Decides}
use lib.Pointwise.{pointwise}
use Rattle.arachne_program.specs.SameDecides.{same_arrays-Decides}

pointwise-map : (E : List ℕ → List ℕ → Bool) (xs ys : List (Vec ℕ Global))
    → pointwise E (map (λ array. array.items) xs) (map (λ array. array.items) ys) ≡ pointwise (λ x y. E x.items y.items) xs ys
pointwise-map E [] [] = refl
pointwise-map E [] (y ∷ ys) = refl
pointwise-map E (x ∷ xs) [] = refl
pointwise-map E (x ∷ xs) (y ∷ ys) = ap (λ (b : Bool). E x.items y.items && b) (pointwise-map E xs ys)

pub arrays-Decides : (xs ys : List (Vec ℕ Global))
    → Decides (pointwise (λ x y. pointwise nat_eq x.items y.items) xs ys) (map (λ array. array.items) xs ≡ map (λ array. array.items) ys)
arrays-Decides xs ys =
    subst (λ (b : Bool). Decides b (map (λ array. array.items) xs ≡ map (λ array. array.items) ys)) (pointwise-map (pointwise nat_eq) xs ys)
    (same_arrays-Decides (map (λ array. array.items) xs) (map (λ array. array.items) ys))
