use Rattle.std.proofs.Common.{refl}
use Rattle.arachne_rule.proofs.Waking.{wake_held}
use Rattle.arachne_rule.proofs.laws.marking_woken_is_wake.Goals as goal

pub returns : goal.returns
returns g q tag_in bits w d b s h weight k mine x x_in is_held = wake_held tag_in bits w d b s h weight k mine x _ x_in refl is_held
