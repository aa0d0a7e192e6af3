use Rattle.arachne_lock.proofs.Waiting.{found}
use Rattle.arachne_lock.proofs.waiter_queue.WaiterQueue.contains.Goals as goal

pub returns : goal.returns
returns c = rw (← c.self.view_is) (found _ _ c.args.who c.contains.result c.self.invariant c.contains.ensures)
