use Rattle.arachne_core.proofs.MarkWords.{marked_of-with_place}
use Rattle.arachne_core.proofs.laws.setting_a_place.Goals as goal

pub returns : goal.returns
returns c = marked_of-with_place
