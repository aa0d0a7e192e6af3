-- The seat has the state, and frees on it. How the history is extended (`goes`) is the condition of a call on a state
-- that a seat has.
use Rattle.std.proofs.Common.{ap, ◌∙◌, refl, None}
use Rattle.arachne_sleep.{proofs.Visiting.{free-goes-on, returnable, idle-again, called, seat-kept}, specs.Steps.GoesOn}
use Rattle.arachne_sleep.proofs.sleep_lock.SleepLock.free.Goals.{After-free_guarded-answer}
use Rattle.arachne_sleep.proofs.sleep_lock.SleepLock.free.Goals as goal

goes : (c : goal.After-free_guarded-answer) → GoesOn c.free_guarded-answer.ensures.freed.0.state c.free_guarded-answer.ensures.freed.1.state None
goes c =
    let a = c.free_guarded-answer.ensures.freed in
    free-goes-on a.0.state a.1.state c.args.who c.free_guarded-answer.result a.3 a.5

pub give_back-requires-clause-guarded : goal.give_back-requires-clause-guarded
give_back-requires-clause-guarded c =
    let me = c.seat.inside.seat.me in
    let call = c.free_guarded-answer in
    let a = call.ensures.freed in
    let on = goes (goal.at.give_back-requires-clause-guarded c).After-free_guarded-answer in
    (a.1, a.0.state.history, returnable me.0.weight me.0.known.log c.take.new.seat.me call.new.seat.me a.0 a.1 None c.if-not-take.ensures.told a.2 on a.4)

pub invariant_of-seat-2 : goal.invariant_of-seat-2
invariant_of-seat-2 c =
    let me = c.seat.inside.seat.me in
    let call = c.free_guarded-answer in
    let a = call.ensures.freed in
    let on = goes (goal.at.invariant_of-seat-2 c).After-free_guarded-answer in
    idle-again me.0.weight me.0.known.log c.take.new.seat.me call.new.seat.me a.0 a.1 None c.if-not-take.ensures.told a.2 on a.4
    c.give_back.new.seat.me c.give_back.ensures.told c.seat.inside.weight (ap (λ m. m.0.weight) c.seat.invariant)

pub returns-clause-answer : goal.returns-clause-answer
returns-clause-answer c =
    let me = c.seat.inside.seat.me in
    let call = c.free_guarded-answer in
    let a = call.ensures.freed in
    let on = goes (goal.at.returns-clause-answer c).After-free_guarded-answer in (
      a.0.state,
      a.1.state,
      called me.0.weight me.0.known.log c.take.new.seat.me call.new.seat.me a.0 a.1 None c.if-not-take.ensures.told a.2 on a.4
          c.give_back.new.seat.me c.give_back.ensures.told c.args.self.now.number c.seat.inside.weight c.seat.inside.seat.table_id c.give_back.new.seat.table_id c.args.seat.now c.seat.view_is
          (c.give_back.ensures.own ∙ a.2.own ∙ c.take.ensures.own) c.requires.number,
      a.3,
    )

pub returns-clause-seat : goal.returns-clause-seat
returns-clause-seat c = seat-kept c.args.self.now c.args.seat.now _ _ (returns-clause-answer c).2.told refl c.requires
