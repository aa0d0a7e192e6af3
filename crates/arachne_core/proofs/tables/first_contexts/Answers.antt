use Rattle.std.{proofs.Common.{ℕ, List, [], ◌∷◌, ◌++◌, map, arith, sym, ap, ◌∙◌}, specs.List.range_with_len}
use Rattle.std.proofs.lemmas.List.FromFn.{map-range_with_len_more}
use Rattle.arachne_core.specs.declared.{place.Place.Place, state.{Context.Context, State.TheVariants.Free}}
use Rattle.arachne_core.specs.TableChanges.{first_context}
use Rattle.arachne_core.proofs.tables.first_contexts.Goals as goal

pub loop-number-preserved : goal.loop-number-preserved
loop-number-preserved c =
    let g : ℕ = c.args.generation in
    let n : ℕ = c.loop-number.number in
    let made : Place → Context = λ p. record { place = p; generation = g; state = Free } in
    c.in_ok-push.ensures.items ∙ ap (λ (xs : List Context). xs ++ made c.of_context.result ∷ []) c.loop-number.invariant
    ∙ ap (λ (p : Place). map (first_context c.args.slots g) (range_with_len 0 n) ++ made p ∷ []) c.of_context.ensures
    ∙ sym (map-range_with_len_more (first_context c.args.slots g) 0 n n (omega arith))
