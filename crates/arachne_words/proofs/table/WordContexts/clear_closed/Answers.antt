use Rattle.std.proofs.Common.{◌<◌, ◌∙◌, ap, sym, subst, refl}
use Rattle.arachne_core.specs.declared.layout.TheConstants.{CORE_BITS}
use Rattle.arachne_rule.{specs.Layout.{Contexts, occ_index}, proofs.CoreSteps.open-allowed}
use Rattle.arachne_words.proofs.Inside.{core-in}
use Rattle.arachne_words.proofs.table.WordContexts.clear_closed.Goals as goal

pub fetch_and-requires : goal.fetch_and-requires
fetch_and-requires g c =
    let core_in = subst (λ (v : Contexts). c.args.core < v.shape.cores) (sym c.self.view_is) c.requires.core in
    let there = c.core_word.ensures ∙ ap (λ (v : Contexts). occ_index v.table.slots c.args.core) (sym c.self.view_is) in (
      ap (λ v. v.table) c.seat.view_is ∙ c.requires.own ∙ sym (ap (λ v. v.table) c.self.view_is),
      core-in _ _ _ c.self.invariant _ _ core_in there,
      open-allowed g.T.Tagged.tag_of CORE_BITS c.self.inside.table.shared.key c.self.inside.table.shared.table_id.slots c.seat.inside.seat.id c.seat.inside.seat.me _ _ _ c.self.invariant.laid_out.slots c.seat.invariant there core_in refl,
    )
