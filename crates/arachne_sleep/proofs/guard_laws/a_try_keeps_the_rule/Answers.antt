use Rattle.arachne_sleep.proofs.Keeps.{takes-allowed}
use Rattle.arachne_sleep.proofs.guard_laws.a_try_keeps_the_rule.Goals as goal

pub returns : goal.returns
returns c = takes-allowed
