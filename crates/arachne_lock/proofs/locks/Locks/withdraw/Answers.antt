-- The seat has the guard, and withdraws on the state. The effect on the history (`goes`) is the condition of a call on
-- a state that a seat has.
use Rattle.std.proofs.Common.{List, ◌++◌, ◌∙◌}
use Rattle.arachne_lock.specs.{Deeds.withdrawn_events, State.{Lock, IsWithdrawn}, declared.event.QueueEvent.QueueEvent}
use Rattle.arachne_lock.proofs.{GoingOn.{Leaves, withdraw-goes-on}, Visiting.{returnable, idle-again, called}}
use Rattle.arachne_lock.proofs.locks.Locks.withdraw.Goals.{After-withdraw_guarded-answer}
use Rattle.arachne_lock.proofs.locks.Locks.withdraw.Goals as goal

goes : (c : goal.After-withdraw_guarded-answer) (h : List QueueEvent) → Leaves h c.withdraw_guarded-answer.ensures.withdrawn.0.lock → Leaves (h ++ withdrawn_events c.args.who c.withdraw_guarded-answer.result) c.withdraw_guarded-answer.ensures.withdrawn.1.lock
goes c h leaves =
    let a = c.withdraw_guarded-answer.ensures.withdrawn in
    withdraw-goes-on h a.0.lock a.1.lock c.args.who c.withdraw_guarded-answer.result leaves a.3

pub give_back-requires-clause-guarded : goal.give_back-requires-clause-guarded
give_back-requires-clause-guarded c =
    let l = c.seat.inside.seat.me.0.log in
    let call = c.withdraw_guarded-answer in
    let a = call.ensures.withdrawn in
    let on = goes (goal.at.give_back-requires-clause-guarded c).After-withdraw_guarded-answer in
    (c.if-not-take.ensures.told.0, a.1, returnable c.args.lock l c.take.new.seat.me call.new.seat.me a.0 a.1 (withdrawn_events c.args.who call.result) c.if-not-take.ensures.told a.2 a.4 on)

pub invariant_of-seat-2 : goal.invariant_of-seat-2
invariant_of-seat-2 c =
    let l = c.seat.inside.seat.me.0.log in
    let call = c.withdraw_guarded-answer in
    let a = call.ensures.withdrawn in
    let on = goes (goal.at.invariant_of-seat-2 c).After-withdraw_guarded-answer in
    idle-again c.args.lock l c.take.new.seat.me call.new.seat.me a.0 a.1 (withdrawn_events c.args.who call.result) c.if-not-take.ensures.told a.2 a.4 on c.give_back.new.seat.me c.give_back.ensures.told

pub returns-clause-answer : goal.returns-clause-answer
returns-clause-answer c =
    let l = c.seat.inside.seat.me.0.log in
    let call = c.withdraw_guarded-answer in
    let a = call.ensures.withdrawn in
    let on = goes (goal.at.returns-clause-answer c).After-withdraw_guarded-answer in
    called c.args.lock l c.take.new.seat.me call.new.seat.me a.0 a.1 (withdrawn_events c.args.who call.result) c.if-not-take.ensures.told a.2 a.4 on c.give_back.new.seat.me c.give_back.ensures.told
    (λ (before after : Lock). IsWithdrawn before after c.args.who call.result) c.seat.inside.seat.table_id c.give_back.new.seat.table_id c.args.seat.now c.seat.view_is
    (c.give_back.ensures.own ∙ a.2.own ∙ c.take.ensures.own) a.3
