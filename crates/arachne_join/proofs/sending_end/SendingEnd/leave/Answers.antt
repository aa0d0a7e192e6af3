use Rattle.std.proofs.Common.{rules, arith, ap, sym, refl, subst}
use Rattle.arachne_join.{specs.declared.view.Role.TheVariants.Left, proofs.CellSteps.fills}
use Rattle.arachne_join.proofs.sending_end.SendingEnd.leave.Goals as goal

pub store-requires : goal.store-requires
store-requires g c = let sized = c.cell.invariant.1 in
    let fit : g.T.Fits.fits c.cell.inside.table.shared.key c.args.value = subst (λ (k : g.row.K.Denot). g.T.Fits.fits k c.args.value) (ap (λ x. x.key) (sym c.cell.view_is)) c.requires.value in
    (search rules, search rules, fills _ _ 1 Left _ _ _ c.args.value _ c.fill.ensures.value c.self.invariant.0 (omega arith) (λ _. fit) (λ e. absurd (omega arith)) refl (λ h. tt))
