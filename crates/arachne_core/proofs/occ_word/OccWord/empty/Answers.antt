use Rattle.arachne_core.proofs.OccupancyWords.{packs_vacant}
use Rattle.arachne_core.proofs.occ_word.OccWord.empty.Goals as goal

pub invariant_of-result : goal.invariant_of-result
invariant_of-result c = packs_vacant.0

pub returns : goal.returns
returns c = packs_vacant.1
