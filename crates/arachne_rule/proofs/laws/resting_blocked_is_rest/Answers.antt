use Rattle.std.proofs.Common.{refl}
use Rattle.arachne_rule.proofs.Resting.{rest_blocked}
use Rattle.arachne_rule.proofs.laws.resting_blocked_is_rest.Goals as goal

pub returns : goal.returns
returns g q tag_in bits w d b s h weight k mine c v c_in has holds tagged is_held = rest_blocked tag_in bits w d b s h weight k mine c.context c v _ c_in has refl holds tagged refl is_held
