use Rattle.std.proofs.Common.{refl}
use Rattle.arachne_rule.proofs.Spending.{spend}
use Rattle.arachne_rule.proofs.laws.a_last_retire_is_retire.Goals as goal

pub returns : goal.returns
returns g q tag_in bits w d b s h weight k mine c c_in has holds last = spend tag_in bits w d b s h weight k mine c.context c c_in has refl holds last
