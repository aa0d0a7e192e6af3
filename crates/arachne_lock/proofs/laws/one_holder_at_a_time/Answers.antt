use Rattle.arachne_lock.proofs.OneHolder.{one_holder}
use Rattle.arachne_lock.proofs.laws.one_holder_at_a_time.Goals as goal

pub returns : goal.returns
returns c = one_holder
