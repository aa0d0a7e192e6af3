use Rattle.std.proofs.Common.{◌<◌, ◌∙◌, ap, sym, subst, Some}
use Rattle.atomic_table.specs.Table.{rest}
use Rattle.arachne_core.specs.{declared.layout.TheConstants.CORE_BITS, Marked.{Marked, mark_word}}
use Rattle.arachne_core.specs.declared.mark.Mark.TheVariants as mark
use Rattle.arachne_rule.specs.declared.view.Kind.TheVariants as kind
use Rattle.arachne_rule.specs.{declared.view.Known.Known, Layout.Contexts, Plays.Carries}
use Rattle.arachne_rule.{specs.Views.{noted, without_context}, proofs.RestSteps.rest-blocked-allowed}
use Rattle.arachne_words.{specs.Steps.HasLast, proofs.{WakeSteps.found-woken, Inside.mark-in}}
use Rattle.arachne_words.proofs.Told.{changed, live-told, view-told}
use Rattle.arachne_words.proofs.table.WordContexts.try_rest_blocked.Goals as goal

pub compare_exchange-found-requires : goal.compare_exchange-found-requires
compare_exchange-found-requires g c =
    let a = c.requires.restable.0 in
    let v = c.requires.restable.1 in
    let has = c.requires.restable.2 in
    let inside = subst (λ (v : Contexts). c.args.context < v.table.slots) (sym c.self.view_is) has.inside in
    let is = c.requires.restable.3 in (
      ap (λ v. v.table) c.seat.view_is ∙ c.requires.own ∙ sym (ap (λ v. v.table) c.self.view_is),
      mark-in _ _ _ c.self.invariant _ inside,
      rest-blocked-allowed g.T.Tagged.tag_of CORE_BITS c.self.inside.table.shared.key c.self.inside.table.shared.table_id.slots c.seat.inside.seat.id c.seat.inside.seat.me a v _ _ _ c.self.invariant.laid_out.slots c.seat.invariant has.context_is inside (subst (λ (k : Known). Carries k a) (sym (ap (λ v. v.known) c.seat.view_is)) has.carried) has.held
          (subst (λ l. HasLast l a.context (Some v)) (sym (ap (λ v. v.slots) c.seat.view_is)) has.slot) has.tagged (ap (λ (m : Marked). m.mark) (c.word-old.ensures.read.1 ∙ is))
          (c.word-new.ensures.packed ∙ ap (mark_word CORE_BITS) (c.with_mark.ensures ∙ ap (λ (m : Marked). record m { mark = mark.Blocked }) is)),
    )

pub invariant_of-seat : goal.invariant_of-seat
invariant_of-seat g c =
    let a = c.requires.restable.0 in
    let v = c.requires.restable.1 in
    let has = c.requires.restable.2 in
    live-told _ _ _ _ ((c.compare_exchange-found.ensures.2 a (sym has.context_is) (subst (λ (k : Known). Carries k a) (sym (ap (λ v. v.known) c.seat.view_is)) has.carried)).1 c.if-found-old.true).2

pub returns-then-found-old-clause-lost : goal.returns-then-found-old-clause-lost
returns-then-found-old-clause-lost g c =
    let a = c.requires.restable.0 in
    let v = c.requires.restable.1 in
    let has = c.requires.restable.2 in
    let told = (c.compare_exchange-found.ensures.2 a (sym has.context_is) (subst (λ (k : Known). Carries k a) (sym (ap (λ v. v.known) c.seat.view_is)) has.carried)).1 c.if-found-old.true in (
      found-woken a c.args.held c.compare_exchange-found.result told.0 told.1 has.held has.shown c.requires.restable.3 (λ e. c.if-found-old.true (e ∙ sym c.word-old.ensures.packed)),
      view-told c.seat.inside.seat.table_id c.compare_exchange-found.new.seat.table_id c.seat.inside.seat.me c.compare_exchange-found.new.seat.me c.args.seat.now (noted kind.RestBlocked c.args.context c.compare_exchange-found.result c.compare_exchange-found.result) (λ l. l) c.seat.view_is c.compare_exchange-found.ensures.0 told.2,
    )

pub invariant_of-seat-2 : goal.invariant_of-seat-2
invariant_of-seat-2 g c =
    let a = c.requires.restable.0 in
    let v = c.requires.restable.1 in
    let has = c.requires.restable.2 in
    live-told _ _ _ _ ((c.compare_exchange-found.ensures.2 a (sym has.context_is) (subst (λ (k : Known). Carries k a) (sym (ap (λ v. v.known) c.seat.view_is)) has.carried)).0 c.if-found-old.false)

pub returns-clause-won : goal.returns-clause-won
returns-clause-won g c a v has =
    let told = (c.compare_exchange-found.ensures.2 a (sym has.context_is) (subst (λ (k : Known). Carries k a) (sym (ap (λ v. v.known) c.seat.view_is)) has.carried)).0 c.if-found-old.false in
    let old = c.if-found-old.false ∙ c.word-old.ensures.packed in
    let new = c.word-new.ensures.packed ∙ ap (mark_word CORE_BITS) c.with_mark.ensures in
    view-told c.seat.inside.seat.table_id c.compare_exchange-found.new.seat.table_id c.seat.inside.seat.me c.compare_exchange-found.new.seat.me c.args.seat.now (λ k. noted kind.RestBlocked c.args.context c.compare_exchange-found.result c.word-new.result (without_context k a)) rest c.seat.view_is c.compare_exchange-found.ensures.0 told
    ∙ (λ i. changed (λ k. noted kind.RestBlocked c.args.context (old i) (new i) (without_context k a)) rest c.args.seat.now)
