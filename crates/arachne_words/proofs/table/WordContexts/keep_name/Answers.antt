use Rattle.std.proofs.Common.{◌<◌, ◌∙◌, ap, sym, subst, None}
use Rattle.arachne_core.specs.declared.layout.TheConstants.{CORE_BITS}
use Rattle.arachne_rule.specs.{declared.view.Known.Known, Layout.{Contexts, name_index}, Plays.Carries}
use Rattle.arachne_rule.proofs.ThreadSteps.{keep-name-allowed}
use Rattle.arachne_words.{specs.{Sizes.IsPlaceIn, Steps.HasLast}, proofs.Inside.name-in}
use Rattle.arachne_words.proofs.table.WordContexts.keep_name.Goals as goal

pub store-requires : goal.store-requires
store-requires g c =
    let a = c.requires.taken.0 in
    let has = c.requires.taken.1 in
    let p_in = subst (λ (v : Contexts). IsPlaceIn v.shape c.args.place) (sym c.self.view_is) c.requires.place in
    let there = c.name_word-word.ensures ∙ ap (λ (v : Contexts). name_index v.table.slots c.args.place) (sym c.self.view_is) in
    let inside = subst (λ (v : Contexts). c.args.context < v.table.slots) (sym c.self.view_is) has.inside in (
      ap (λ v. v.table) c.seat.view_is ∙ c.requires.own ∙ sym (ap (λ v. v.table) c.self.view_is),
      name-in _ _ _ c.self.invariant _ _ p_in there,
      keep-name-allowed g.T.Tagged.tag_of CORE_BITS c.self.inside.table.shared.key c.self.inside.table.shared.table_id.slots c.seat.inside.seat.id c.seat.inside.seat.me a _ _ c.self.invariant.laid_out.slots c.seat.invariant has.context_is inside
          (there ∙ ap (name_index c.self.inside.table.shared.table_id.slots) (sym has.place)) (subst (λ (k : Known). Carries k a) (sym (ap (λ v. v.known) c.seat.view_is)) has.carried) has.held
          (subst (λ l. HasLast l a.context None) (sym (ap (λ v. v.slots) c.seat.view_is)) has.slot),
    )
