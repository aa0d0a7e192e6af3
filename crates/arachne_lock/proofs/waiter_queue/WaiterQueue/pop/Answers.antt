use Rattle.arachne_lock.proofs.Waiting.{Indexes-pop}
use Rattle.arachne_lock.proofs.waiter_queue.WaiterQueue.pop.Goals as goal

pub invariant_of-self-2 : goal.invariant_of-self-2
invariant_of-self-2 c =
    Indexes-pop _ _ _ c.in_ok-front.front (rw c.in_ok-front.ensures.items at c.self.invariant) c.remove.ensures.updates.0
