use Rattle.arachne_jobs.proofs.Seated.{join-allowed}
use Rattle.arachne_jobs.proofs.spill.SpillQueue.join_passes.Goals as goal

pub absorb-requires-clause-rule : goal.absorb-requires-clause-rule
absorb-requires-clause-rule g c = join-allowed g.T.Tagged.tag_of _ _ _ _ c.pass.invariant c.other.invariant
