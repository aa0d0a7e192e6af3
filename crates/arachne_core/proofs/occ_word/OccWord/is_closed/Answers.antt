use Rattle.std.proofs.Common.{ap, ◌∙◌}
use Rattle.arachne_core.{specs.Occupancy.Occupancy, proofs.OccupancyWords.bit_test}
use Rattle.arachne_core.proofs.occ_word.OccWord.is_closed.Goals as goal

pub returns : goal.returns
returns c = bit_test c.self.inside.word 62 ∙ ap (λ (o : Occupancy). o.closed) c.self.view_is
