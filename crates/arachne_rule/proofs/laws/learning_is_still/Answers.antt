use Rattle.std.proofs.Common.{refl}
use Rattle.arachne_rule.proofs.Slots.{learn}
use Rattle.arachne_rule.proofs.laws.learning_is_still.Goals as goal

pub returns : goal.returns
returns g q tag_in bits w d b s h weight k mine c c_in has named home = let r = learn tag_in bits w d b s h weight k mine c.context c c_in has refl home in ((r.1 named, r.0), (tt, r.2))
