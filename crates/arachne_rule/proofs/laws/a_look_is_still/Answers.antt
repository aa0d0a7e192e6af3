use Rattle.arachne_rule.proofs.Noted.{noted_board}
use Rattle.arachne_rule.proofs.laws.a_look_is_still.Goals as goal

pub returns : goal.returns
returns g q tag_in bits w d b s h weight k mine noting carried given ended = (tt, noted_board tag_in bits w d b s h weight k mine noting carried given ended)
