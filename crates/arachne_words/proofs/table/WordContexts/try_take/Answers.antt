use Rattle.std.proofs.Common.{◌<◌, ◌∙◌, ap, sym, subst, Some, ◌∷◌}
use Rattle.arachne_core.specs.{declared.layout.TheConstants.CORE_BITS, Marked.{mark_word, marked_of}}
use Rattle.arachne_rule.specs.declared.view.Kind.TheVariants as kind
use Rattle.arachne_rule.specs.{declared.view.Known.Known, Layout.Contexts, Views.{noted, with_context, carried_at}}
use Rattle.arachne_rule.{specs.Changes.taken_context, proofs.ThreadSteps.take-allowed}
use Rattle.arachne_words.proofs.{Inside.mark-in, Told.{changed, view-told}}
use Rattle.arachne_words.proofs.table.WordContexts.try_take.Goals as goal

pub compare_exchange-found-requires : goal.compare_exchange-found-requires
compare_exchange-found-requires g c =
    let inside = subst (λ (v : Contexts). c.args.context < v.table.slots) (sym c.self.view_is) c.requires.context in (
      ap (λ v. v.table) c.seat.view_is ∙ c.requires.own ∙ sym (ap (λ v. v.table) c.self.view_is),
      mark-in _ _ _ c.self.invariant _ inside,
      take-allowed g.T.Tagged.tag_of CORE_BITS c.self.inside.table.shared.key c.self.inside.table.shared.table_id.slots c.seat.inside.seat.id c.seat.inside.seat.me _ _ _ c.args.seen c.self.invariant.laid_out.slots c.seat.invariant inside c.word-old.ensures.read.1 c.requires.ready
          (c.word-new.ensures.packed ∙ ap (mark_word CORE_BITS) c.with_mark.ensures),
    )

pub returns-clause-won : goal.returns-clause-won
returns-clause-won g c =
    let told = c.compare_exchange-found.ensures.2.0 c.if-found-old.false in
    let old = c.if-found-old.false ∙ c.word-old.ensures.packed in
    let new = c.word-new.ensures.packed ∙ ap (mark_word CORE_BITS) c.with_mark.ensures in
    let read = c.word-old.ensures.read.1 in
    let tag = g.T.Tagged.tag_of told.0 in (
      told.0,
      ap (λ (k : Known). carried_at c.args.context k.carried) (sym (ap (λ v. v.known) c.seat.view_is)) ∙ told.1,
      view-told c.seat.inside.seat.table_id c.compare_exchange-found.new.seat.table_id c.seat.inside.seat.me c.compare_exchange-found.new.seat.me c.args.seat.now
          (λ k. noted kind.Take c.args.context c.compare_exchange-found.result c.word-new.result (with_context k (taken_context c.args.context (marked_of CORE_BITS c.word-old.result) tag))) (λ l. (c.args.context, Some told.0) ∷ l)
          c.seat.view_is c.compare_exchange-found.ensures.0 told.2
          ∙ (λ i. changed (λ k. noted kind.Take c.args.context (old i) (new i) (with_context k (taken_context c.args.context (read i) tag))) (λ l. (c.args.context, Some told.0) ∷ l) c.args.seat.now),
    )
