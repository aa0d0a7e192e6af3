use Rattle.arachne_rule.proofs.Closing.{close_core}
use Rattle.arachne_rule.proofs.laws.a_close_is_close_core.Goals as goal

pub returns : goal.returns
returns g q tag_in bits w d b s core core_in = close_core tag_in bits w d b s core core_in
