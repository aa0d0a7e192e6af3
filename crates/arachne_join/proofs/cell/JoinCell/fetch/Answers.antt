use Rattle.std.proofs.Common.{rules, Some, ap, sym, refl}
use Rattle.arachne_join.proofs.CellSteps.{fetches, returns_slot}
use Rattle.arachne_join.proofs.cell.JoinCell.fetch.Goals as goal

pub compare_exchange-found-requires : goal.compare_exchange-found-requires
compare_exchange-found-requires g c = let looked = c.look-seen.ensures.look.1 in
    (search rules, search rules, fetches g.T.Fits.fits g.T.Fits.may_wait c.self.inside.table.shared.key _ _ _ _ _ looked (ap (λ x. Some x.key) (sym c.self.view_is)) refl)

pub load-requires : goal.load-requires
load-requires g c = let took = c.compare_exchange-found.ensures.2.0 c.if-found-ne-FULL.false in
    (search rules, search rules, returns_slot _ _ _ _ _ _ c.take_out-value.ensures.value.1 (ap (λ m. m.0.role) took.1))
