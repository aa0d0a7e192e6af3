use Rattle.std.proofs.{Common.{◌<◌, ◌^◌, List, length, subst, arith, rules}, lemmas.List.get_or_read}
use Rattle.std.proofs.lemmas.List.Sums.{count_by-le-length}
use Rattle.arachne_sleep.specs.declared.event.LockEvent.{LockEvent}
use Rattle.arachne_run.specs.Histories.{is_grant_to}
use Rattle.arachne_run.proofs.report.grants_by_tag.Goals as goal

-- a thread has at most as many grants as there are events
pub overflow_add-index_mut : goal.overflow_add-index_mut
overflow_add-index_mut c =
    let tag = c.in-Grant.who.tag in
    let within : tag < length c.loop-event.grants.items = search rules in
    let read = get_or_read c.loop-event.grants.items _ _ within c.index_mut.ensures.value 0 in
    let counted = c.loop-event.invariant.counted tag in
    let most = count_by-le-length (is_grant_to tag) c.args.history.now.items in
    let few : length c.args.history.now.items < 2 ^ 63 =
    subst (λ (events : List LockEvent). length events < 2 ^ 63) c.iter-event-items.ensures.events c.iter-event-items.ensures.few in
    omega (arith, read, counted, most, few)
