use Rattle.std.proofs.Common.{ap, ◌∙◌}
use Rattle.arachne_core.{specs.Marked.Marked, proofs.OccupancyWords.bit_test}
use Rattle.arachne_core.proofs.mark_word.MarkWord.is_alone.Goals as goal

pub returns : goal.returns
returns c = bit_test c.self.inside.word 3 ∙ ap (λ (m : Marked). m.alone) c.self.view_is
