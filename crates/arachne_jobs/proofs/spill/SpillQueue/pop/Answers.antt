use Rattle.std.proofs.Common.{◌∙◌, ap, subst}
use Rattle.arachne_jobs.{specs.Views.AllCameOut, proofs.Seated.{pop-allowed, settled, where-none}}
use Rattle.arachne_jobs.proofs.spill.SpillQueue.pop.Goals as goal

pub pop_as-requires-clause-rule : goal.pop_as-requires-clause-rule
pop_as-requires-clause-rule g c = pop-allowed g.T.Tagged.tag_of _ _ c.pass.invariant

pub returns-clause-all_out : goal.returns-clause-all_out
returns-clause-all_out g c = where-none _ c.pop_as.result c.pop_as.ensures.rule (λ found all.
    subst AllCameOut c.pass.view_is (settled g.T.Tagged.tag_of _ _ c.pass.invariant (ap (λ v. v.weight) c.pass.view_is ∙ all) found.1))
