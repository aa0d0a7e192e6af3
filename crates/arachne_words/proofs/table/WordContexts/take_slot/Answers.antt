use Rattle.std.proofs.Common.{◌<◌, ◌∙◌, ap, sym, subst}
use Rattle.arachne_core.specs.declared.layout.TheConstants.{CORE_BITS}
use Rattle.arachne_rule.specs.{declared.view.Known.Known, Layout.{Contexts, name_index}, Plays.Carries}
use Rattle.arachne_rule.proofs.LookSteps.{take-slot-allowed}
use Rattle.arachne_words.{specs.Sizes.IsPlaceIn, proofs.Inside.name-in}
use Rattle.arachne_words.proofs.table.WordContexts.take_slot.Goals as goal

pub load-requires : goal.load-requires
load-requires g c =
    let a = c.requires.carried.0 in
    let has = c.requires.carried.1 in
    let p_in = subst (λ (v : Contexts). IsPlaceIn v.shape c.args.place) (sym c.self.view_is) c.requires.place in
    let there = c.name_word.ensures ∙ ap (λ (v : Contexts). name_index v.table.slots c.args.place) (sym c.self.view_is) in
    let inside = subst (λ (v : Contexts). a.context < v.table.slots) (sym c.self.view_is) has.inside in (
      ap (λ v. v.table) c.seat.view_is ∙ c.requires.own ∙ sym (ap (λ v. v.table) c.self.view_is),
      name-in _ _ _ c.self.invariant _ _ p_in there,
      take-slot-allowed g.T.Tagged.tag_of CORE_BITS c.self.inside.table.shared.key c.self.inside.table.shared.table_id.slots c.seat.inside.seat.id c.seat.inside.seat.me a _ c.self.invariant.laid_out.slots c.seat.invariant
          (there ∙ ap (name_index c.self.inside.table.shared.table_id.slots) (sym has.place)) inside (subst (λ (k : Known). Carries k a) (sym (ap (λ v. v.known) c.seat.view_is)) has.carried) has.named has.home,
    )
