use Rattle.arachne_rule.proofs.Joining.{split}
use Rattle.arachne_rule.proofs.laws.a_split_is_still.Goals as goal

pub returns : goal.returns
returns g q tag_in bits w d b s h weight k mine = (tt, split tag_in bits w d b s h weight k mine)
