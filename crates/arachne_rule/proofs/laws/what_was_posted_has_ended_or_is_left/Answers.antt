use Rattle.arachne_rule.proofs.Ending.{all-settled}
use Rattle.arachne_rule.proofs.laws.what_was_posted_has_ended_or_is_left.Goals as goal

pub returns : goal.returns
returns g q tag_in bits shape s rule h k mine none_out slots long same = all-settled tag_in bits shape s rule h k mine none_out slots long same
