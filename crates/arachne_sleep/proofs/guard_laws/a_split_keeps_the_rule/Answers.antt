use Rattle.arachne_sleep.proofs.Keeps.{splits-allowed}
use Rattle.arachne_sleep.proofs.guard_laws.a_split_keeps_the_rule.Goals as goal

pub returns : goal.returns
returns c = splits-allowed
