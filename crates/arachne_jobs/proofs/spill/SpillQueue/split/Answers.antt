use Rattle.arachne_jobs.proofs.Seated.{split-allowed}
use Rattle.arachne_jobs.proofs.spill.SpillQueue.split.Goals as goal

pub another-other-requires-clause-rule : goal.another-other-requires-clause-rule
another-other-requires-clause-rule g c = split-allowed g.T.Tagged.tag_of _ _ c.pass.invariant
