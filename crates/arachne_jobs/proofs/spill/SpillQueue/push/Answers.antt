use Rattle.std.proofs.Common.{ap, ◌∙◌, subst}
use Rattle.arachne_jobs.{specs.Views.{IsAheadBy, capacity}, proofs.Seated.{push-allowed, counted, where-refused}}
use Rattle.arachne_jobs.proofs.spill.SpillQueue.push.Goals as goal

pub push_as-requires-clause-rule : goal.push_as-requires-clause-rule
push_as-requires-clause-rule g c = push-allowed g.T.Tagged.tag_of _ _ c.pass.invariant _ _

pub returns-clause-whole : goal.returns-clause-whole
returns-clause-whole g c = where-refused c.push_as.result _ c.push_as.ensures.rule (λ back refused all.
    subst (λ pass. IsAheadBy pass capacity) c.pass.view_is (counted g.T.Tagged.tag_of _ _ _ _ c.self.invariant c.pass.invariant (ap (λ v. v.weight) c.pass.view_is ∙ all) refused.2))
