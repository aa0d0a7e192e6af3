-- A wake, by an exchange from blocked or from held. The idea: the mark word that was seen is of the generation of the
-- id, so a win is `HasWoken`, and a loss returns the word that was found; that the thread had ended contradicts
-- `not-gone`. A third mark that can be woken is one more arm here, and in `HasWoken`.
use Rattle.std.proofs.Common.{ℕ, ◌∙◌, ap, sym, subst, arith, inl, inr}
use Rattle.arachne_core.specs.{declared.layout.TheConstants.CORE_BITS, Marked.{Marked, mark_word, mark_code}}
use Rattle.arachne_core.specs.declared.thread_id.ThreadId.{ThreadId}
use Rattle.arachne_core.specs.declared.mark.Mark.TheVariants as mark
use Rattle.arachne_rule.specs.declared.view.Kind.TheVariants as kind
use Rattle.arachne_rule.specs.{declared.view.Known.Known, Views.noted, Plays.HasEnded}
use Rattle.arachne_words.specs.{Seats.CallView, Calls.{looked, WakeAnswer}}
use Rattle.arachne_words.proofs.WakeSteps.{not-gone}
use Rattle.arachne_words.proofs.table.WordContexts.wake.Goals.{in-Ok, in-Err, in-Ok-try_mark_woken, in-Err-try_mark_woken}
use Rattle.arachne_words.proofs.table.WordContexts.wake.Goals as goal

pub returns-after-try_wake-clause-answer : goal.returns-after-try_wake-clause-answer
returns-after-try_wake-clause-answer g c =
    let x : ℕ = c.args.id.context in
    let seen : Marked = c.see_mark-seen.result in
    let word : ℕ = mark_word CORE_BITS seen in
    let generation = sym c.generation.ensures.value ∙ c.if-generation-id.false in
    elim c.match-try_wake.branch [
      | in-Ok w ↦ subst (λ r. WakeAnswer c.args.self.now c.args.id c.args.seat.now.known r c.try_wake.new.seat.known) (sym w.result-is) (
        seen,
        c.see_mark-seen.ensures.read,
        generation,
        inl (
          sym c.in-Blocked.ensures,
          ap (λ v. v.known) w.in-Ok.ensures.won
              ∙ ap (λ (v : CallView g.row.T.Denot). noted kind.Wake x word (mark_word CORE_BITS (record seen { mark = mark.Ready })) v.known) c.see_mark-seen.ensures.seat
              ∙ ap (λ v. noted kind.Wake x word (mark_word CORE_BITS (record seen { mark = mark.Ready })) (looked x word v.known)) c.seat.view_is,
        ),
      )
      | in-Err w ↦ subst (λ r. WakeAnswer c.args.self.now c.args.id c.args.seat.now.known r c.try_wake.new.seat.known) (sym w.result-is) (
        word,
        w.in-Err.ensures.lost.0,
        inl (ap (λ v. v.known) w.in-Err.ensures.lost.1
            ∙ ap (λ (v : CallView g.row.T.Denot). noted kind.Wake x w.in-Err.found w.in-Err.found v.known) c.see_mark-seen.ensures.seat
            ∙ ap (λ v. noted kind.Wake x w.in-Err.found w.in-Err.found (looked x word v.known)) c.seat.view_is),
      )
    ]

pub returns-after-try_wake-clause-ended : goal.returns-after-try_wake-clause-ended
returns-after-try_wake-clause-ended g c t same has =
    let a = ap mark_code c.in-Blocked.ensures in
    absurd (not-gone c.args.id t.0 c.see_mark-seen.result c.see_mark-seen.ensures.read (sym c.generation.ensures.value ∙ c.if-generation-id.false) same (omega (arith, a), omega (arith, a))
    (c.see_mark-seen.ensures.gone t (ap (λ (i : ThreadId). i.context) same) (subst (λ (k : Known). HasEnded k t) (sym (ap (λ v. v.known) c.seat.view_is)) has)))

pub returns-after-try_mark_woken-clause-answer : goal.returns-after-try_mark_woken-clause-answer
returns-after-try_mark_woken-clause-answer g c =
    let x : ℕ = c.args.id.context in
    let seen : Marked = c.see_mark-seen.result in
    let word : ℕ = mark_word CORE_BITS seen in
    let generation = sym c.generation.ensures.value ∙ c.if-generation-id.false in
    elim c.match-try_mark_woken.branch [
      | in-Ok-try_mark_woken w ↦ subst (λ r. WakeAnswer c.args.self.now c.args.id c.args.seat.now.known r c.try_mark_woken.new.seat.known) (sym w.result-is) (
        seen,
        c.see_mark-seen.ensures.read,
        generation,
        inr (
          sym c.in-Held.ensures,
          ap (λ v. v.known) w.in-Ok-try_mark_woken.ensures.won
              ∙ ap (λ (v : CallView g.row.T.Denot). noted kind.MarkWoken x word (mark_word CORE_BITS (record seen { mark = mark.Woken })) v.known) c.see_mark-seen.ensures.seat
              ∙ ap (λ v. noted kind.MarkWoken x word (mark_word CORE_BITS (record seen { mark = mark.Woken })) (looked x word v.known)) c.seat.view_is,
        ),
      )
      | in-Err-try_mark_woken w ↦ subst (λ r. WakeAnswer c.args.self.now c.args.id c.args.seat.now.known r c.try_mark_woken.new.seat.known) (sym w.result-is) (
        word,
        w.in-Err-try_mark_woken.ensures.lost.0,
        inr (ap (λ v. v.known) w.in-Err-try_mark_woken.ensures.lost.1
            ∙ ap (λ (v : CallView g.row.T.Denot). noted kind.MarkWoken x w.in-Err-try_mark_woken.found w.in-Err-try_mark_woken.found v.known) c.see_mark-seen.ensures.seat
            ∙ ap (λ v. noted kind.MarkWoken x w.in-Err-try_mark_woken.found w.in-Err-try_mark_woken.found (looked x word v.known)) c.seat.view_is),
      )
    ]

pub returns-after-try_mark_woken-clause-ended : goal.returns-after-try_mark_woken-clause-ended
returns-after-try_mark_woken-clause-ended g c t same has =
    let a = ap mark_code c.in-Held.ensures in
    absurd (not-gone c.args.id t.0 c.see_mark-seen.result c.see_mark-seen.ensures.read (sym c.generation.ensures.value ∙ c.if-generation-id.false) same (omega (arith, a), omega (arith, a))
    (c.see_mark-seen.ensures.gone t (ap (λ (i : ThreadId). i.context) same) (subst (λ (k : Known). HasEnded k t) (sym (ap (λ v. v.known) c.seat.view_is)) has)))
