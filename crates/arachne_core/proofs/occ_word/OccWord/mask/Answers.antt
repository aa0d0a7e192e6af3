use Rattle.std.proofs.{Common.{ap, ◌∙◌}, lemmas.Nat.and_mask}
use Rattle.arachne_core.specs.{declared.layout.TheConstants.MASK_BITS, Occupancy.{Occupancy, mask_of}}
use Rattle.arachne_core.proofs.OccupancyWords.{read_mask}
use Rattle.arachne_core.proofs.occ_word.OccWord.mask.Goals as goal

pub returns-clause-bits : goal.returns-clause-bits
returns-clause-bits c = and_mask c.self.inside.word MASK_BITS ∙ read_mask c.self.inside.word c.self.invariant ∙ ap (λ (o : Occupancy). mask_of o.occupied) c.self.view_is
