use Rattle.arachne_core.proofs.MarkWords.{marked_of-with_mark}
use Rattle.arachne_core.proofs.laws.setting_a_mark.Goals as goal

pub returns : goal.returns
returns c = marked_of-with_mark
