use Rattle.arachne_lock.proofs.Waiting.{Indexes-push}
use Rattle.arachne_lock.proofs.waiter_queue.WaiterQueue.push.Goals as goal

pub invariant_of-self-2 : goal.invariant_of-self-2
invariant_of-self-2 c =
    rw (c.push_back_reserved.ensures.items, c.reserve.ensures.items)
    (Indexes-push _ _ _ c.args.who c.self.invariant (rw c.self.view_is c.requires) c.in_ok-insert.ensures.updates.0)
