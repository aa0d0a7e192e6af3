use Rattle.std.proofs.Common.{false, get_or, sym, ap, ◌∙◌, arith}
use Rattle.arachne_core.{specs.Occupancy.Occupancy, proofs.OccupancyWords.lowest}
use Rattle.arachne_core.proofs.occ_word.OccWord.lowest_free.Goals as goal

pub returns-then-index-from-clause-free : goal.returns-then-index-from-clause-free
returns-then-index-from-clause-free c =
    ap (λ (o : Occupancy). get_or o.occupied c.trailing_ones-index.result false) (sym c.self.view_is) ∙ (lowest c.self.inside.word c.trailing_ones-index.result c.trailing_ones-index.ensures).0

pub returns-then-index-from-clause-lowest : goal.returns-then-index-from-clause-lowest
returns-then-index-from-clause-lowest c = λ i h.
    ap (λ (o : Occupancy). get_or o.occupied i false) (sym c.self.view_is) ∙ (lowest c.self.inside.word c.trailing_ones-index.result c.trailing_ones-index.ensures).1 i h

pub returns-else-index-from-clause-none : goal.returns-else-index-from-clause-none
returns-else-index-from-clause-none c = λ i h.
    ap (λ (o : Occupancy). get_or o.occupied i false) (sym c.self.view_is) ∙ (lowest c.self.inside.word c.trailing_ones-index.result c.trailing_ones-index.ensures).1 i (omega arith)
