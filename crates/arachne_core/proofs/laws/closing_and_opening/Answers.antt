use Rattle.arachne_core.proofs.OccupancyWords.{closing, opening}
use Rattle.arachne_core.proofs.laws.closing_and_opening.Goals as goal

pub returns : goal.returns
returns c = record { closing = closing; opening = opening }
