use Rattle.std.proofs.Common.{◌≡◌, ℕ, ◌+◌, List, [], ◌∷◌, ◌++◌, map, arith, sym, ap, ◌∙◌, map-id}
use Rattle.std.{specs.List.range_with_len, proofs.lemmas.List.FromFn.map-range_with_len_more}
use Rattle.arachne_core.proofs.tables.first_residents.Goals as goal

pub loop-number-preserved : goal.loop-number-preserved
loop-number-preserved c =
    let n : ℕ = c.loop-number.number in
    let same : (xs : List ℕ) → map (λ (x : ℕ). x) xs ≡ xs = λ xs. map-id xs in
    c.in_ok-push.ensures.items ∙ ap (λ (xs : List ℕ). xs ++ n ∷ []) (c.loop-number.invariant ∙ sym (same (range_with_len 0 n)))
    ∙ sym (map-range_with_len_more (λ (x : ℕ). x) 0 n n (omega arith)) ∙ same (range_with_len 0 (n + 1))
