-- Choosers that are given one after another.
use Rattle.std.specs.Prelude.{◌≡◌, List, [], ◌∷◌, ◌++◌, Option, MatchOption}

-- It is the last of these, and the others are left. There is none only if these are none.
abbrev pub IsLastOf : {R : Type 0} → Option R → List R → List R → Type 0
IsLastOf given before left = MatchOption given (before ≡ []) (λ last. before ≡ left ++ last ∷ [])
