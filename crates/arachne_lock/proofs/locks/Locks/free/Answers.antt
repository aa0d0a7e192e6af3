-- The seat has the guard, and frees on the state. The effect on the history (`goes`) is the condition of a call on a
-- state that a seat has.
use Rattle.std.proofs.Common.{List, ◌++◌, ◌∙◌}
use Rattle.arachne_lock.specs.{Deeds.freed_events, State.{Lock, IsFreed}, declared.event.QueueEvent.QueueEvent}
use Rattle.arachne_lock.proofs.{GoingOn.{Leaves, free-goes-on}, Visiting.{returnable, idle-again, called}}
use Rattle.arachne_lock.proofs.locks.Locks.free.Goals.{After-free_guarded-answer}
use Rattle.arachne_lock.proofs.locks.Locks.free.Goals as goal

goes : (c : goal.After-free_guarded-answer) (h : List QueueEvent) → Leaves h c.free_guarded-answer.ensures.freed.0.lock → Leaves (h ++ freed_events c.args.who c.free_guarded-answer.result) c.free_guarded-answer.ensures.freed.1.lock
goes c h leaves =
    let a = c.free_guarded-answer.ensures.freed in
    free-goes-on h a.0.lock a.1.lock c.args.who c.free_guarded-answer.result leaves a.3

pub give_back-requires-clause-guarded : goal.give_back-requires-clause-guarded
give_back-requires-clause-guarded c =
    let l = c.seat.inside.seat.me.0.log in
    let call = c.free_guarded-answer in
    let a = call.ensures.freed in
    let on = goes (goal.at.give_back-requires-clause-guarded c).After-free_guarded-answer in
    (c.if-not-take.ensures.told.0, a.1, returnable c.args.lock l c.take.new.seat.me call.new.seat.me a.0 a.1 (freed_events c.args.who call.result) c.if-not-take.ensures.told a.2 a.4 on)

pub invariant_of-seat-2 : goal.invariant_of-seat-2
invariant_of-seat-2 c =
    let l = c.seat.inside.seat.me.0.log in
    let call = c.free_guarded-answer in
    let a = call.ensures.freed in
    let on = goes (goal.at.invariant_of-seat-2 c).After-free_guarded-answer in
    idle-again c.args.lock l c.take.new.seat.me call.new.seat.me a.0 a.1 (freed_events c.args.who call.result) c.if-not-take.ensures.told a.2 a.4 on c.give_back.new.seat.me c.give_back.ensures.told

pub returns-clause-answer : goal.returns-clause-answer
returns-clause-answer c =
    let l = c.seat.inside.seat.me.0.log in
    let call = c.free_guarded-answer in
    let a = call.ensures.freed in
    let on = goes (goal.at.returns-clause-answer c).After-free_guarded-answer in
    called c.args.lock l c.take.new.seat.me call.new.seat.me a.0 a.1 (freed_events c.args.who call.result) c.if-not-take.ensures.told a.2 a.4 on c.give_back.new.seat.me c.give_back.ensures.told
    (λ (before after : Lock). IsFreed before after c.args.who call.result) c.seat.inside.seat.table_id c.give_back.new.seat.table_id c.args.seat.now c.seat.view_is
    (c.give_back.ensures.own ∙ a.2.own ∙ c.take.ensures.own) a.3
