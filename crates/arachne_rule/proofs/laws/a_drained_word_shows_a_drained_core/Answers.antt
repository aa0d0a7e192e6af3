use Rattle.arachne_rule.proofs.Closing.{drained}
use Rattle.arachne_rule.proofs.laws.a_drained_word_shows_a_drained_core.Goals as goal

pub returns : goal.returns
returns g q tag_in bits w d b s core core_in closed empty = drained tag_in bits w d b s core core_in closed empty
