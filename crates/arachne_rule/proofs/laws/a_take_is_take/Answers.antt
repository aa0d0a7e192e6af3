use Rattle.std.proofs.Common.{refl}
use Rattle.arachne_rule.proofs.Take.{take}
use Rattle.arachne_rule.proofs.laws.a_take_is_take.Goals as goal

pub returns : goal.returns
returns g q tag_in bits w d b s h weight k mine x x_in ready = let r = take tag_in bits w d b s h weight k mine x _ x_in refl ready in (r.0, r.1, (r.2, r.3))
