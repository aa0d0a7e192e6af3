use Rattle.std.proofs.{Common.{None, [], ◌∷◌, ◌++◌, sym, ap, ◌∙◌}, lemmas.Grind.replicate_next}
use Rattle.arachne_locked.proofs.homes.no_values.Goals as goal

pub loop-preserved : goal.loop-preserved
loop-preserved g c = c.in_ok-push.ensures.items ∙ ap (λ xs. xs ++ None ∷ []) c.loop.invariant ∙ sym (replicate_next c.loop.counter None)
