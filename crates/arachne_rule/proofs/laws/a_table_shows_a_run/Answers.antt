use Rattle.std.proofs.Common.{◌∙◌, sym}
use Rattle.arachne_rule.proofs.Histories.{history-is-a-run}
use Rattle.arachne_rule.proofs.laws.a_table_shows_a_run.Goals as goal

pub returns : goal.returns
returns g q tag_in bits shape s rule = let r = history-is-a-run bits _ rule.first rule.history rule.tells.lawful in (rule.shows.owned, (r.0, r.1 ∙ sym rule.tells.world, rule.tells.words))
