use Rattle.std.proofs.Common.{refl}
use Rattle.arachne_rule.proofs.Naming.{keep_name}
use Rattle.arachne_rule.proofs.laws.keeping_the_name_is_still.Goals as goal

pub returns : goal.returns
returns g q tag_in bits w d b s h weight k mine c c_in has holds = (tt, keep_name tag_in bits w d b s h weight k mine c.context c c_in has refl holds)
