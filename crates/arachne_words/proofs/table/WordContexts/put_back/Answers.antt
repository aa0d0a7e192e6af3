-- A held thread is put back, and its context is no longer out with the seat. The idea: the hold's fields are those of
-- its model, so `rest_thread` says what the seat carries then (`keeps-less`). The steps are in `rest_thread`.
use Rattle.std.proofs.Common.{ℕ, ap, sym, subst}
use Rattle.arachne_rule.specs.declared.view.Known.{Known}
use Rattle.arachne_words.{specs.Seats.{HasThread, HoldView, held_by}, proofs.Out.keeps-less}
use Rattle.arachne_words.proofs.table.WordContexts.put_back.Goals as goal

pub invariant_of-seat : goal.invariant_of-seat
invariant_of-seat g c =
    let hold : HoldView = record { id = c.hold.inside.id; place = c.hold.inside.place; alone = c.hold.inside.alone } in
    let tag : ℕ = g.T.Tagged.tag_of c.args.thread.value in
    let has = subst (λ (k : Known). HasThread c.args.self.now k hold tag) (sym (ap (λ v. v.known) c.seat.view_is)) (subst (λ (h : HoldView). HasThread c.args.self.now c.args.seat.now.known h tag) (sym c.hold.view_is) c.requires.thread) in
    keeps-less c.seat.inside.at c.rest_thread-rested.new.seat c.seat.inside.weight c.seat.inside.out c.rest_thread-rested.new.seat.known c.seat.invariant c.rest_thread-rested.ensures.seat (held_by hold tag) has.carried c.rest_thread-rested.ensures.carried
