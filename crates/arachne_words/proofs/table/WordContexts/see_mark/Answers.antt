use Rattle.std.proofs.Common.{◌<◌, ◌∙◌, ap, sym, subst, refl}
use Rattle.arachne_core.specs.{declared.layout.TheConstants.CORE_BITS, Marked.{mark_word, marked_of}}
use Rattle.arachne_rule.specs.{Layout.Contexts, declared.view.Known.Known, Plays.{HasEnded, IsGone}}
use Rattle.arachne_rule.proofs.LookSteps.{look-mark-allowed}
use Rattle.arachne_words.proofs.Inside.{mark-in}
use Rattle.arachne_words.proofs.table.WordContexts.see_mark.Goals as goal

pub load-word-requires : goal.load-word-requires
load-word-requires g c =
    let x_in = subst (λ (v : Contexts). c.args.context < v.table.slots) (sym c.self.view_is) c.requires.context in (
      ap (λ v. v.table) c.seat.view_is ∙ c.requires.own ∙ sym (ap (λ v. v.table) c.self.view_is),
      mark-in _ _ _ c.self.invariant _ x_in,
      look-mark-allowed g.T.Tagged.tag_of CORE_BITS c.self.inside.table.shared.key c.self.inside.table.shared.table_id.slots c.seat.inside.seat.id c.seat.inside.seat.me _ c.self.invariant.laid_out.slots c.seat.invariant x_in,
    )

pub returns-clause-gone : goal.returns-clause-gone
returns-clause-gone g c =
    let seen = c.in-Some.ensures in
    let word = sym (seen.some.0 refl).0 ∙ sym (ap (mark_word CORE_BITS) seen.value) in
    λ t same has. subst (IsGone CORE_BITS t.0) word (c.load-word.ensures.2.3 t same (subst (λ (k : Known). HasEnded k t) (sym (ap (λ v. v.known) c.seat.view_is)) has))

pub returns-clause-read : goal.returns-clause-read
returns-clause-read g c =
    let seen = c.in-Some.ensures in
    ap (marked_of CORE_BITS) (ap (mark_word CORE_BITS) seen.value ∙ (seen.some.0 refl).0) ∙ sym seen.value
