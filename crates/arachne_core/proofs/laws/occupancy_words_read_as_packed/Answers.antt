use Rattle.arachne_core.proofs.OccupancyWords.{occupancy_of-occupancy_word}
use Rattle.arachne_core.proofs.laws.occupancy_words_read_as_packed.Goals as goal

pub returns : goal.returns
returns c = occupancy_of-occupancy_word
