use Rattle.std.proofs.Common.{ℕ, ◌<◌, ◌∙◌, ap, sym, subst}
use Rattle.arachne_core.specs.{declared.layout.TheConstants.CORE_BITS, Marked.mark_word}
use Rattle.arachne_rule.specs.declared.view.Kind.TheVariants as kind
use Rattle.arachne_rule.specs.{declared.view.Known.Known, Layout.Contexts, Plays.Carries, Views.{noted, with_context}}
use Rattle.arachne_rule.proofs.MoveSteps.{replace-allowed}
use Rattle.arachne_words.proofs.{Inside.mark-in, Told.{changed, live-told, view-told}}
use Rattle.arachne_words.proofs.table.WordContexts.replace.Goals as goal

pub store-requires : goal.store-requires
store-requires g c =
    let a = c.requires.claimed.0 in
    let has = c.requires.claimed.1 in
    let inside = subst (λ (x : ℕ). x < c.self.inside.table.shared.table_id.slots) (sym c.requires.claimed.2) (subst (λ (v : Contexts). a.context < v.table.slots) (sym c.self.view_is) has.inside) in (
      ap (λ v. v.table) c.seat.view_is ∙ c.requires.own ∙ sym (ap (λ v. v.table) c.self.view_is),
      mark-in _ _ _ c.self.invariant _ inside,
      replace-allowed g.T.Tagged.tag_of CORE_BITS c.self.inside.table.shared.key c.self.inside.table.shared.table_id.slots c.seat.inside.seat.id c.seat.inside.seat.me a _ _ c.self.invariant.laid_out.slots c.seat.invariant c.requires.claimed.2 inside (subst (λ (k : Known). Carries k a) (sym (ap (λ v. v.known) c.seat.view_is)) has.carried) has.claimed (c.word.ensures.packed ∙ ap (mark_word CORE_BITS) c.requires.claimed.3),
    )

pub invariant_of-seat : goal.invariant_of-seat
invariant_of-seat g c =
    let a = c.requires.claimed.0 in
    let has = c.requires.claimed.1 in
    live-told _ _ _ _ (c.store.ensures.2 a (sym c.requires.claimed.2) (subst (λ (k : Known). Carries k a) (sym (ap (λ v. v.known) c.seat.view_is)) has.carried)).1

pub returns : goal.returns
returns g c a has same =
    let told = c.store.ensures.2 a (sym same) (subst (λ (k : Known). Carries k a) (sym (ap (λ v. v.known) c.seat.view_is)) has.carried) in (
      told.0,
      view-told c.seat.inside.seat.table_id c.store.new.seat.table_id c.seat.inside.seat.me c.store.new.seat.me c.args.seat.now (λ k. noted kind.Replace c.args.context told.0 c.word.result (with_context k (record a { shown = a.place }))) (λ l. l) c.seat.view_is c.store.ensures.0 told.1
          ∙ ap (λ (q : ℕ). changed (λ k. noted kind.Replace c.args.context told.0 q (with_context k (record a { shown = a.place }))) (λ l. l) c.args.seat.now) c.word.ensures.packed,
    )
