use Rattle.arachne_jobs.proofs.Keeps.{opens}
use Rattle.arachne_jobs.proofs.spill.SpillQueue.new.Goals as goal

pub ruled-requires-clause-rule : goal.ruled-requires-clause-rule
ruled-requires-clause-rule g c = opens g.T.Tagged.tag_of
