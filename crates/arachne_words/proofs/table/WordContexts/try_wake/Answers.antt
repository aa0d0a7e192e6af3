use Rattle.std.proofs.Common.{◌<◌, ◌∙◌, ap, sym, subst}
use Rattle.arachne_core.specs.{declared.layout.TheConstants.CORE_BITS, Marked.mark_word}
use Rattle.arachne_rule.{specs.Layout.Contexts, proofs.RestSteps.wake-allowed}
use Rattle.arachne_words.proofs.Inside.{mark-in}
use Rattle.arachne_words.proofs.table.WordContexts.try_wake.Goals as goal

pub compare_exchange-found-requires : goal.compare_exchange-found-requires
compare_exchange-found-requires g c =
    let inside = subst (λ (v : Contexts). c.args.context < v.table.slots) (sym c.self.view_is) c.requires.context in (
      ap (λ v. v.table) c.seat.view_is ∙ c.requires.own ∙ sym (ap (λ v. v.table) c.self.view_is),
      mark-in _ _ _ c.self.invariant _ inside,
      wake-allowed g.T.Tagged.tag_of CORE_BITS c.self.inside.table.shared.key c.self.inside.table.shared.table_id.slots c.seat.inside.seat.id c.seat.inside.seat.me _ _ _ c.args.seen c.self.invariant.laid_out.slots c.seat.invariant inside c.word-old.ensures.read.1 c.requires.blocked (c.word-new.ensures.packed ∙ ap (mark_word CORE_BITS) c.with_mark.ensures),
    )
