use Rattle.std.proofs.Common.{ℕ, List, inr, ap, ◌∙◌}
use Rattle.arachne_exec.specs.{Layout.ready_at, Changes.{gaining, noted}}
use Rattle.arachne_exec.proofs.executor.Executor.take_many.Goals as goal

pub returns-clause-took : goal.returns-clause-took
returns-clause-took c =
    let block : ℕ = c.args.block in let pick : ℕ = c.lowest-pick.result in
    let took = c.take_bits.ensures.took in let jobs : List (ℕ × ℕ) = took.0 in
    let saw = ap (λ v. v.known) c.look-ready.ensures.seat ∙ (λ i. noted (c.ready_word.ensures i) c.look-ready.result (ap (λ v. v.known) c.seat.view_is i)) in
    inr (
      c.look-ready.result,
      pick,
      took.1,
      jobs,
      c.lowest-pick.ensures.some,
      c.lowest-pick.ensures.within,
      took.2,
      took.3,
      c.lowest-pick.ensures.lowest block,
      ap (λ v. v.known) took.4 ∙ (λ i. gaining jobs (noted (ready_at block) took.1 (saw i))),
    )
