use Rattle.arachne_rule.proofs.Joining.{join}
use Rattle.arachne_rule.proofs.laws.a_join_is_still.Goals as goal

pub returns : goal.returns
returns g q tag_in bits w d b s h weight k mine other added o apart theirs none_out = (tt, join tag_in bits w d b s h weight k mine other added o apart theirs none_out)
