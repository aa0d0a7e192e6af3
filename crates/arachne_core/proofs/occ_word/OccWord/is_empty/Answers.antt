use Rattle.std.proofs.Common.{sym, ◌∙◌, eqb-true, eq-eqb}
use Rattle.arachne_core.proofs.OccupancyWords.{mask_of-zero, mask_of-none}
use Rattle.arachne_core.proofs.occ_word.OccWord.is_empty.Goals as goal

pub returns : goal.returns
returns c =
    let bs = c.args.self.occupied in
    (λ e i h. mask_of-zero bs (sym c.mask.ensures.bits ∙ eqb-true c.mask.result 0 e) i, λ h. eq-eqb c.mask.result 0 (c.mask.ensures.bits ∙ mask_of-none bs h))
