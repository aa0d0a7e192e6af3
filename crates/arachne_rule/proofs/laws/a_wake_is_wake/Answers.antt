use Rattle.std.proofs.Common.{refl}
use Rattle.arachne_rule.proofs.Waking.{wake_blocked}
use Rattle.arachne_rule.proofs.laws.a_wake_is_wake.Goals as goal

pub returns : goal.returns
returns g q tag_in bits w d b s h weight k mine x x_in blocked = wake_blocked tag_in bits w d b s h weight k mine x _ x_in refl blocked
