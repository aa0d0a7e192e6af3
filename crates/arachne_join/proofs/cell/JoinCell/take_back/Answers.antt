use Rattle.std.proofs.Common.{rules, Some, ap, sym, refl}
use Rattle.arachne_join.proofs.CellSteps.{takes_back}
use Rattle.arachne_join.proofs.cell.JoinCell.take_back.Goals as goal

pub compare_exchange-found-requires : goal.compare_exchange-found-requires
compare_exchange-found-requires g c = let looked = c.look-seen.ensures.look.1 in
    (search rules, search rules, takes_back g.T.Fits.fits g.T.Fits.may_wait c.self.inside.table.shared.key _ _ _ _ _ looked (ap (λ x. Some x.key) (sym c.self.view_is)) refl)
