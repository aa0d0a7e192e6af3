use Rattle.std.proofs.Common.{refl}
use Rattle.arachne_rule.proofs.Naming.{name_source}
use Rattle.arachne_rule.proofs.laws.naming_the_source_is_still.Goals as goal

pub returns : goal.returns
returns g q tag_in bits w d b s h weight k mine c c_in has free settled = (tt, name_source tag_in bits w d b s h weight k mine c.context c c_in has refl free settled)
