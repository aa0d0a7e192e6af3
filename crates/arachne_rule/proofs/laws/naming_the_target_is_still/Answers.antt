use Rattle.arachne_rule.proofs.Naming.{name_target}
use Rattle.arachne_rule.proofs.laws.naming_the_target_is_still.Goals as goal

pub returns : goal.returns
returns g q tag_in bits w d b s h weight k mine p x c x_in c_in found has free unnamed = (tt, name_target tag_in bits w d b s h weight k mine p x c.context c x_in c_in found has free unnamed)
