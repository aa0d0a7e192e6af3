use Rattle.std.proofs.Common.{◌<◌, ◌∙◌, ap, sym, subst}
use Rattle.arachne_core.specs.declared.layout.TheConstants.{CORE_BITS}
use Rattle.arachne_rule.specs.{declared.view.Known.Known, Layout.{Contexts, name_index}, Plays.Carries}
use Rattle.arachne_rule.proofs.MoveSteps.{name-target-allowed}
use Rattle.arachne_words.{specs.Sizes.IsPlaceIn, proofs.Inside.name-in}
use Rattle.arachne_words.proofs.table.WordContexts.name_target.Goals as goal

pub compare_exchange-requires : goal.compare_exchange-requires
compare_exchange-requires g c =
    let a = c.requires.claimed.0 in
    let has = c.requires.claimed.1 in
    let inside = subst (λ (v : Contexts). c.args.context < v.table.slots) (sym c.self.view_is) c.requires.context in
    let p_in = subst (λ (v : Contexts). IsPlaceIn v.shape c.args.target) (sym c.self.view_is) c.requires.place in
    let there = c.name_word-word.ensures ∙ ap (λ (v : Contexts). name_index v.table.slots c.args.target) (sym c.self.view_is) in (
      ap (λ v. v.table) c.seat.view_is ∙ c.requires.own ∙ sym (ap (λ v. v.table) c.self.view_is),
      name-in _ _ _ c.self.invariant _ _ p_in there,
      name-target-allowed g.T.Tagged.tag_of CORE_BITS c.self.inside.table.shared.key c.self.inside.table.shared.table_id.slots c.seat.inside.seat.id c.seat.inside.seat.me c.args.target a _ _ _ c.self.invariant.laid_out.slots c.seat.invariant there p_in.0 p_in.1 inside (subst (λ (v : Contexts). a.context < v.table.slots) (sym c.self.view_is) has.inside) (subst (λ (k : Known). Carries k a) (sym (ap (λ v. v.known) c.seat.view_is)) has.carried) has.claimed c.requires.claimed.3 c.requires.claimed.2,
    )
