use Rattle.std.proofs.Common.{rules, arith, ap, sym, refl, subst}
use Rattle.arachne_join.{specs.declared.view.Role.TheVariants.PutBack, proofs.CellSteps.fills}
use Rattle.arachne_join.proofs.sending_end.SendingEnd.put_back.Goals as goal

pub store-requires : goal.store-requires
store-requires g c = let sized = c.cell.invariant.1 in
    let fit : g.T.Fits.may_wait c.cell.inside.table.shared.key c.args.waiting = subst (λ (k : g.row.K.Denot). g.T.Fits.may_wait k c.args.waiting) (ap (λ x. x.key) (sym c.cell.view_is)) c.requires.value in
    (search rules, search rules, fills _ _ 3 PutBack _ _ _ c.args.waiting _ c.fill.ensures.value c.self.invariant.0 (omega arith) (λ e. absurd (omega arith)) (λ _. fit) refl (λ h. tt))
