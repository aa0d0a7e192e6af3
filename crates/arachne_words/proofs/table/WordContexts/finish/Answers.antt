-- A held thread ends, and its context is no longer out with the seat. The idea: the seat's fields are those of its
-- model, so `end_thread` says what the seat carries then (`keeps-less`). The steps are in `end_thread`.
use Rattle.std.proofs.Common.{ap, sym, subst}
use Rattle.arachne_rule.specs.declared.view.Known.{Known}
use Rattle.arachne_words.specs.{Seats.{HasThread, held_by}, Calls.HasFinished}
use Rattle.arachne_words.proofs.Out.{keeps-less}
use Rattle.arachne_words.proofs.table.WordContexts.finish.Goals as goal

pub end_thread-requires-clause-thread : goal.end_thread-requires-clause-thread
end_thread-requires-clause-thread g c = (g.T.Tagged.tag_of c.args.thread.value, subst (λ (k : Known). HasThread c.args.self.now k c.args.thread.hold (g.T.Tagged.tag_of c.args.thread.value)) (sym (ap (λ v. v.known) c.seat.view_is)) c.requires.thread)

pub invariant_of-seat : goal.invariant_of-seat
invariant_of-seat g c =
    let has = subst (λ (k : Known). HasThread c.args.self.now k c.args.thread.hold (g.T.Tagged.tag_of c.args.thread.value)) (sym (ap (λ v. v.known) c.seat.view_is)) c.requires.thread in
    keeps-less c.seat.inside.at c.end_thread.new.seat c.seat.inside.weight c.seat.inside.out c.end_thread.new.seat.known c.seat.invariant c.end_thread.ensures.seat (held_by c.args.thread.hold (g.T.Tagged.tag_of c.args.thread.value)) has.carried c.end_thread.ensures.carried

pub returns-clause-finished : goal.returns-clause-finished
returns-clause-finished g c =
    let tag = g.T.Tagged.tag_of c.args.thread.value in
    let has = subst (λ (k : Known). HasThread c.args.self.now k c.args.thread.hold tag) (sym (ap (λ v. v.known) c.seat.view_is)) c.requires.thread in
    subst (λ (k : Known). HasFinished c.args.self.now k c.args.thread.hold tag c.end_thread.new.seat.known) (ap (λ v. v.known) c.seat.view_is) (c.end_thread.ensures.finished tag has)
