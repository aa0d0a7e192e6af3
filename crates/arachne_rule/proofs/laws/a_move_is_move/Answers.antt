use Rattle.std.proofs.Common.{refl}
use Rattle.arachne_rule.proofs.Move.{move}
use Rattle.arachne_rule.proofs.laws.a_move_is_move.Goals as goal

pub returns : goal.returns
returns g q tag_in bits w d b s h weight k mine x c x_in c_in rests shared has free named mine_shared apart = move tag_in bits w d b s h weight k mine x c.context _ c x_in c_in refl rests shared has refl free named mine_shared apart
