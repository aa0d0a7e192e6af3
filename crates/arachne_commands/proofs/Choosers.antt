-- The generators of cores, one after another.
use Rattle.std.proofs.Common.{◌≡◌, ℕ, ◌+◌, List, [], ◌∷◌, ◌++◌, sym, ap, ◌∙◌, arith}
use Rattle.std.proofs.lemmas.List.FromFn.{map-range_with_len_more}
use Rattle.arachne_commands.specs.Running.{chooser_of, choosers_of}

pub one_more_chooser : (seed core : ℕ) (before after : List (List ℕ)) (chooser : List ℕ) → before ≡ choosers_of seed core → after ≡ before ++ chooser ∷ []
    → chooser ≡ chooser_of seed core → after ≡ choosers_of seed (core + 1)
one_more_chooser seed core before after chooser so_far pushed seeded =
    pushed ∙ ap (λ (front : List (List ℕ)). front ++ chooser ∷ []) so_far
    ∙ ap (λ (last : List ℕ). choosers_of seed core ++ last ∷ []) seeded
    ∙ sym (map-range_with_len_more (chooser_of seed) 0 core core (omega arith))
