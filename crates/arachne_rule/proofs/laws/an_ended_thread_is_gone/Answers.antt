use Rattle.arachne_rule.proofs.OwnWords.{ended-for-good}
use Rattle.arachne_rule.proofs.laws.an_ended_thread_is_gone.Goals as goal

pub returns : goal.returns
returns g q tag_in bits w d b s h weight k mine t has = let r = ended-for-good tag_in bits w d b s h weight k mine t has in (r.0, (r.1, r.2))
