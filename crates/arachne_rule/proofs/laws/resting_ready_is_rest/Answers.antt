use Rattle.std.proofs.Common.{refl}
use Rattle.arachne_rule.proofs.Resting.{rest_ready}
use Rattle.arachne_rule.proofs.laws.resting_ready_is_rest.Goals as goal

pub returns : goal.returns
returns g q tag_in bits w d b s h weight k mine c v c_in has holds tagged = rest_ready tag_in bits w d b s h weight k mine c.context c v c_in has refl holds tagged
