use Rattle.arachne_rule.proofs.Keeping.{step-kept}
use Rattle.arachne_rule.proofs.laws.a_step_keeps_the_rule.Goals as goal

pub returns : goal.returns
returns g q tag_in bits shape s rule weight k known e slots act d mine kept next homes shows =
    step-kept tag_in bits shape s rule weight k known e slots act d mine kept next homes shows
