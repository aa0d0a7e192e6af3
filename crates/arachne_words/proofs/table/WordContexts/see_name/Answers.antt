use Rattle.std.proofs.Common.{◌∙◌, ap, sym, subst}
use Rattle.arachne_core.specs.declared.layout.TheConstants.{CORE_BITS}
use Rattle.arachne_rule.{specs.Layout.{Contexts, name_index}, proofs.LookSteps.learn-allowed}
use Rattle.arachne_words.{specs.Sizes.IsPlaceIn, proofs.Inside.name-in}
use Rattle.arachne_words.proofs.table.WordContexts.see_name.Goals as goal

pub load-requires : goal.load-requires
load-requires g c =
    let p_in = subst (λ (v : Contexts). IsPlaceIn v.shape c.args.place) (sym c.self.view_is) c.requires.place in
    let there = c.name_word.ensures ∙ ap (λ (v : Contexts). name_index v.table.slots c.args.place) (sym c.self.view_is) in (
      ap (λ v. v.table) c.seat.view_is ∙ c.requires.own ∙ sym (ap (λ v. v.table) c.self.view_is),
      name-in _ _ _ c.self.invariant _ _ p_in there,
      learn-allowed g.T.Tagged.tag_of CORE_BITS c.self.inside.table.shared.key c.self.inside.table.shared.table_id.slots c.seat.inside.seat.id c.seat.inside.seat.me _ _ c.self.invariant.laid_out.slots c.seat.invariant there p_in.0 p_in.1,
    )
