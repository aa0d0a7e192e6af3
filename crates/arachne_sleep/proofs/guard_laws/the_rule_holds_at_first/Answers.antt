use Rattle.arachne_sleep.proofs.Keeps.{opens}
use Rattle.arachne_sleep.proofs.guard_laws.the_rule_holds_at_first.Goals as goal

pub returns : goal.returns
returns c = opens
