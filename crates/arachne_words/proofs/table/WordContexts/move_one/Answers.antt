use Rattle.std.proofs.Common.{ℕ, ◌∙◌, ap, inr}
use Rattle.arachne_core.specs.{declared.layout.TheConstants.CORE_BITS, Marked.mark_word}
use Rattle.arachne_rule.specs.Layout.{name_index}
use Rattle.arachne_words.specs.{Seats.CallView, Calls.{looked, learned}}
use Rattle.arachne_words.proofs.table.WordContexts.move_one.Goals as goal

pub returns-clause-answer : goal.returns-clause-answer
returns-clause-answer g c =
    let x : ℕ = c.see_name-moving.result in
    let w : ℕ = mark_word CORE_BITS c.see_mark-seen.result in
    let i : ℕ = name_index c.args.self.now.table.slots c.args.place in (
      x,
      c.see_mark-seen.result,
      c.see_mark-seen.ensures.read,
      c.see_mark-seen.new.seat.known,
      ap (λ v. v.known) c.see_mark-seen.ensures.seat ∙ ap (λ (v : CallView g.row.T.Denot). looked x w v.known) c.see_name-moving.ensures.seat ∙ ap (λ v. looked x w (learned i x v.known)) c.seat.view_is,
      inr (inr (c.stands_at.ensures.0 c.if-not-stands_at.false, c.in_default.ensures.none.0, c.in_default.ensures.none.1, c.move_seen.ensures.answer)),
    )
