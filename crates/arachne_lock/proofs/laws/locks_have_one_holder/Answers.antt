use Rattle.arachne_lock.proofs.{OneHolder.one_holder, Leaving.grants_none}
use Rattle.arachne_lock.proofs.laws.locks_have_one_holder.Goals as goal

pub returns : goal.returns
returns c = λ locks board rule lock. (one_holder (rule.histories lock) (rule.sound lock).lawful, grants_none (rule.histories lock) (rule.sound lock).lawful)
