use Rattle.std.proofs.Common.{ℕ, ap, ◌∙◌, subst, refl}
use Rattle.crossbeam_queue.specs.{Fifo.Held, Passes.view}
use Rattle.arachne_jobs.specs.{Balance.IsMoment, Views.{IsAheadBy, AllCameOut}}
use Rattle.arachne_jobs.proofs.{Keeps.sees, Seated.{counted, settled}}
use Rattle.arachne_jobs.proofs.spill.SpillQueue.len.Goals as goal

pub len_as-requires-clause-rule : goal.len_as-requires-clause-rule
len_as-requires-clause-rule g c = sees g.T.Tagged.tag_of _ _

pub returns-clause-whole : goal.returns-clause-whole
returns-clause-whole g c all =
    subst (λ pass. IsAheadBy pass c.len_as.result) c.pass.view_is (counted g.T.Tagged.tag_of _ _ _ _ refl c.pass.invariant (ap (λ v. v.weight) c.pass.view_is ∙ all) c.len_as.ensures.rule.1)

pub returns-clause-all_out : goal.returns-clause-all_out
returns-clause-all_out g c none all =
    let seen = subst (λ (n : ℕ). Held n (IsMoment g.T.Tagged.tag_of (view c.pass.inside.pass))) none c.len_as.ensures.rule.1 in
    subst AllCameOut c.pass.view_is (settled g.T.Tagged.tag_of _ _ c.pass.invariant (ap (λ v. v.weight) c.pass.view_is ∙ all) seen)
