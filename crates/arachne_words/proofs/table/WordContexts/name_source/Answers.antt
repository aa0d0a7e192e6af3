use Rattle.std.proofs.Common.{ℕ, ◌<◌, ◌∙◌, ap, sym, subst, true}
use Rattle.arachne_core.specs.declared.layout.TheConstants.{CORE_BITS}
use Rattle.arachne_rule.specs.declared.view.Kind.TheVariants as kind
use Rattle.arachne_rule.specs.{declared.view.Known.Known, Layout.{Contexts, name_index}, Plays.Carries}
use Rattle.arachne_rule.{specs.Views.{noted, with_context}, proofs.MoveSteps.name-source-allowed}
use Rattle.arachne_words.{specs.Sizes.IsPlaceIn, proofs.Inside.name-in}
use Rattle.arachne_words.proofs.Told.{changed, live-told, view-told}
use Rattle.arachne_words.proofs.table.WordContexts.name_source.Goals as goal

pub store-requires : goal.store-requires
store-requires g c =
    let a = c.requires.claimed.0 in
    let has = c.requires.claimed.1 in
    let inside = subst (λ (x : ℕ). x < c.self.inside.table.shared.table_id.slots) (sym c.requires.claimed.2) (subst (λ (v : Contexts). a.context < v.table.slots) (sym c.self.view_is) has.inside) in
    let p_in = subst (λ (v : Contexts). IsPlaceIn v.shape c.args.source) (sym c.self.view_is) c.requires.place in
    let there = c.name_word-word.ensures ∙ ap (λ (v : Contexts). name_index v.table.slots c.args.source) (sym c.self.view_is) in (
      ap (λ v. v.table) c.seat.view_is ∙ c.requires.own ∙ sym (ap (λ v. v.table) c.self.view_is),
      name-in _ _ _ c.self.invariant _ _ p_in there,
      name-source-allowed g.T.Tagged.tag_of CORE_BITS c.self.inside.table.shared.key c.self.inside.table.shared.table_id.slots c.seat.inside.seat.id c.seat.inside.seat.me a _ _ c.self.invariant.laid_out.slots c.seat.invariant c.requires.claimed.2 inside (there ∙ ap (name_index c.self.inside.table.shared.table_id.slots) (sym c.requires.claimed.3)) (subst (λ (k : Known). Carries k a) (sym (ap (λ v. v.known) c.seat.view_is)) has.carried) has.claimed c.requires.claimed.4,
    )

pub invariant_of-seat : goal.invariant_of-seat
invariant_of-seat g c =
    let a = c.requires.claimed.0 in
    let has = c.requires.claimed.1 in
    live-told _ _ _ _ (c.store.ensures.2 a (sym c.requires.claimed.2) (subst (λ (k : Known). Carries k a) (sym (ap (λ v. v.known) c.seat.view_is)) has.carried)).1

pub returns : goal.returns
returns g c a has same =
    let told = c.store.ensures.2 a (sym same) (subst (λ (k : Known). Carries k a) (sym (ap (λ v. v.known) c.seat.view_is)) has.carried) in (
      told.0,
      view-told c.seat.inside.seat.table_id c.store.new.seat.table_id c.seat.inside.seat.me c.store.new.seat.me c.args.seat.now (λ k. noted kind.NameSource c.name_word-word.result told.0 c.args.context (with_context k (record a { named = true }))) (λ l. l) c.seat.view_is c.store.ensures.0 told.1
          ∙ ap (λ (q : ℕ). changed (λ k. noted kind.NameSource q told.0 c.args.context (with_context k (record a { named = true }))) (λ l. l) c.args.seat.now) c.name_word-word.ensures,
    )
