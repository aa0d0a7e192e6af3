use Rattle.arachne_core.proofs.OccupancyWords.{word_has_its_count}
use Rattle.arachne_core.proofs.laws.occupancy_words_pack_as_read.Goals as goal

pub returns : goal.returns
returns c = word_has_its_count
