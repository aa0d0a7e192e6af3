use Rattle.arachne_rule.proofs.Closing.{past-the-places}
use Rattle.arachne_rule.proofs.laws.a_word_shows_no_index_past_the_places.Goals as goal

pub returns : goal.returns
returns g q tag_in bits w d b s core core_in = past-the-places tag_in bits w d b s core core_in
