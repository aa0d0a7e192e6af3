use Rattle.std.proofs.Common.{◌∙◌, refl, ap}
use Rattle.arachne_exec.specs.{Layout.free_at, Changes.noted}
use Rattle.arachne_exec.proofs.Chains.{missed}
use Rattle.arachne_exec.proofs.executor.Executor.spawn_here.Goals as goal

pub returns-then-not-claim_bit-clause-answer : goal.returns-then-not-claim_bit-clause-answer
returns-then-not-claim_bit-clause-answer c =
    let then = c.if-not-claim_bit.ensures.missed refl in
    let saw = ap (λ v. v.known) c.look-free.ensures.seat ∙ (λ i. noted (c.free_word.ensures i) c.look-free.result (ap (λ v. v.known) c.seat.view_is i)) in
    missed free_at c.args.block c.lowest_index.result c.look-free.result then.0 _ _ _ c.lowest_index.ensures.low c.lowest_index.ensures.there saw then.1 (ap (λ v. v.known) then.2)
