-- The last thread of a context ends. As in `retire`, by `spend-allowed`: no seat carries the context then, and its
-- place stays occupied. The fields of its mark word are in `marked_spent`.
use Rattle.std.proofs.Common.{ℕ, ◌<◌, ◌∙◌, ap, sym, subst, refl, false}
use Rattle.arachne_core.specs.{declared.layout.TheConstants.CORE_BITS, Marked.mark_word}
use Rattle.arachne_rule.specs.declared.view.Kind.TheVariants as kind
use Rattle.arachne_rule.specs.{declared.view.Known.Known, Changes.spent_known, Layout.Contexts, Plays.Carries}
use Rattle.arachne_rule.{specs.Views.noted, proofs.ThreadSteps.spend-allowed}
use Rattle.arachne_words.{specs.Seats.{HoldView, held_by}, proofs.Inside.mark-in}
use Rattle.arachne_words.proofs.Told.{changed, live-told, view-told}
use Rattle.arachne_core.specs.declared.mark.Mark.TheVariants as mark
use Rattle.arachne_words.proofs.table.WordContexts.spend.Goals as goal

pub swap-requires : goal.swap-requires
swap-requires g c =
    let tag = c.requires.thread.0 in
    let has = c.requires.thread.1 in
    let a = held_by c.args.hold.now tag in
    let same = ap (λ (h : HoldView). h.id.context) c.hold.view_is in
    let inside = subst (λ (v : Contexts). a.context < v.table.slots) (sym c.self.view_is) has.inside in
    let here = subst (λ (x : ℕ). x < c.self.inside.table.shared.table_id.slots) (sym same) inside in
    let word = c.word.ensures.packed ∙ ap (mark_word CORE_BITS) (c.new-spent.ensures ∙ ap (λ (h : HoldView). record { mark = mark.Spent; alone = false; place = h.place; generation = h.id.generation }) c.hold.view_is) in (
      ap (λ v. v.table) c.seat.view_is ∙ c.requires.own ∙ sym (ap (λ v. v.table) c.self.view_is),
      mark-in _ _ _ c.self.invariant _ here,
      spend-allowed g.T.Tagged.tag_of CORE_BITS c.self.inside.table.shared.key c.self.inside.table.shared.table_id.slots c.seat.inside.seat.id c.seat.inside.seat.me a _ _ c.self.invariant.laid_out.slots c.seat.invariant same here (subst (λ (k : Known). Carries k a) (sym (ap (λ v. v.known) c.seat.view_is)) has.carried) refl refl (c.requires.last ∙ sym (ap (λ (v : Contexts). v.shape.last) c.self.view_is)) word,
    )

pub invariant_of-seat : goal.invariant_of-seat
invariant_of-seat g c =
    let tag = c.requires.thread.0 in
    let has = c.requires.thread.1 in
    let a = held_by c.args.hold.now tag in
    live-told _ _ _ _ (c.swap.ensures.2 a (sym (ap (λ (h : HoldView). h.id.context) c.hold.view_is)) (subst (λ (k : Known). Carries k a) (sym (ap (λ v. v.known) c.seat.view_is)) has.carried))

pub returns : goal.returns
returns g c tag has =
    let a = held_by c.args.hold.now tag in
    let same = ap (λ (h : HoldView). h.id.context) c.hold.view_is in
    let told = c.swap.ensures.2 a (sym same) (subst (λ (k : Known). Carries k a) (sym (ap (λ v. v.known) c.seat.view_is)) has.carried) in
    let word = c.word.ensures.packed ∙ ap (mark_word CORE_BITS) (c.new-spent.ensures ∙ ap (λ (h : HoldView). record { mark = mark.Spent; alone = false; place = h.place; generation = h.id.generation }) c.hold.view_is) in (
      c.swap.result,
      view-told c.seat.inside.seat.table_id c.swap.new.seat.table_id c.seat.inside.seat.me c.swap.new.seat.me c.args.seat.now (λ k. noted kind.Retire c.hold.inside.id.context c.swap.result c.word.result (spent_known k a)) (λ l. l) c.seat.view_is c.swap.ensures.0 told
          ∙ (λ i. changed (λ k. noted kind.Retire (same i) c.swap.result (word i) (spent_known k a)) (λ l. l) c.args.seat.now),
    )
