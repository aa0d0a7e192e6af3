use Rattle.arachne_rule.proofs.Closing.{open_core}
use Rattle.arachne_rule.proofs.laws.an_open_is_open_core.Goals as goal

pub returns : goal.returns
returns g q tag_in bits w d b s core core_in = open_core tag_in bits w d b s core core_in
