use Rattle.std.proofs.Common.{ℕ, ◌<◌, ◌∙◌, ap, sym, subst, Some}
use Rattle.arachne_core.specs.{declared.layout.TheConstants.CORE_BITS, Marked.mark_word}
use Rattle.arachne_rule.specs.{declared.view.Known.Known, Layout.Contexts, Plays.Carries}
use Rattle.arachne_rule.{proofs.ThreadSteps.post-allowed, specs.{Changes.posted, Views.noted}}
use Rattle.atomic_table.specs.Table.{rest}
use Rattle.arachne_words.{specs.Steps.HasLast, proofs.Inside.mark-in}
use Rattle.arachne_words.proofs.Told.{changed, live-told, view-told}
use Rattle.arachne_rule.specs.declared.view.Kind.TheVariants as kind
use Rattle.arachne_words.proofs.table.WordContexts.store_posted.Goals as goal

pub store-requires : goal.store-requires
store-requires g c =
    let a = c.requires.postable.0 in
    let v = c.requires.postable.1 in
    let has = c.requires.postable.2 in
    let inside = subst (λ (v : Contexts). c.args.context < v.table.slots) (sym c.self.view_is) has.inside in (
      ap (λ v. v.table) c.seat.view_is ∙ c.requires.own ∙ sym (ap (λ v. v.table) c.self.view_is),
      mark-in _ _ _ c.self.invariant _ inside,
      post-allowed g.T.Tagged.tag_of CORE_BITS c.self.inside.table.shared.key c.self.inside.table.shared.table_id.slots c.seat.inside.seat.id c.seat.inside.seat.me a v _ _ c.self.invariant.laid_out.slots c.seat.invariant has.context_is inside (subst (λ (k : Known). Carries k a) (sym (ap (λ v. v.known) c.seat.view_is)) has.carried) has.claimed has.named
          (subst (λ l. HasLast l a.context (Some v)) (sym (ap (λ v. v.slots) c.seat.view_is)) has.slot) (c.word.ensures.packed ∙ ap (mark_word CORE_BITS) has.ready_is),
    )

pub invariant_of-seat : goal.invariant_of-seat
invariant_of-seat g c =
    let a = c.requires.postable.0 in
    let v = c.requires.postable.1 in
    let has = c.requires.postable.2 in
    live-told _ _ _ _ (c.store.ensures.2 a v (sym has.context_is) (subst (λ (k : Known). Carries k a) (sym (ap (λ v. v.known) c.seat.view_is)) has.carried) (subst (λ l. HasLast l a.context (Some v)) (sym (ap (λ v. v.slots) c.seat.view_is)) has.slot)).1

pub returns : goal.returns
returns g c a v has =
    let told = c.store.ensures.2 a v (sym has.context_is) (subst (λ (k : Known). Carries k a) (sym (ap (λ v. v.known) c.seat.view_is)) has.carried) (subst (λ l. HasLast l a.context (Some v)) (sym (ap (λ v. v.slots) c.seat.view_is)) has.slot) in (
      told.0,
      view-told c.seat.inside.seat.table_id c.store.new.seat.table_id c.seat.inside.seat.me c.store.new.seat.me c.args.seat.now (λ k. noted kind.Post c.args.context told.0 c.word.result (posted k a (g.T.Tagged.tag_of v))) rest c.seat.view_is c.store.ensures.0 told.1
          ∙ ap (λ (q : ℕ). changed (λ k. noted kind.Post c.args.context told.0 q (posted k a (g.T.Tagged.tag_of v))) rest c.args.seat.now) c.word.ensures.packed,
    )
