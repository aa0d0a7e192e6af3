use Rattle.arachne_rule.proofs.Opening.{opens}
use Rattle.arachne_rule.proofs.laws.the_rule_holds_at_first.Goals as goal

pub returns : goal.returns
returns g q tag_in bits shape words is first_words = opens tag_in bits shape words is first_words
