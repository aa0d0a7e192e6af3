use Rattle.arachne_lock.proofs.Leaving.{grants_none}
use Rattle.arachne_lock.proofs.laws.one_that_left_is_not_granted.Goals as goal

pub returns : goal.returns
returns c = grants_none
