use Rattle.arachne_sleep.proofs.Keeps.{joins-allowed}
use Rattle.arachne_sleep.proofs.guard_laws.a_join_keeps_the_rule.Goals as goal

pub returns : goal.returns
returns c = joins-allowed
