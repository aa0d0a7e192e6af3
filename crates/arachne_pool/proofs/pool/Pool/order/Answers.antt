use Rattle.std.proofs.Common.{rules}
use Rattle.arachne_pool.proofs.ClosedFirst.{AreReady-closed_first}
use Rattle.arachne_pool.proofs.pool.Pool.order.Goals.{then-is_closed+in_ok-insert, else-is_closed}
use Rattle.arachne_pool.proofs.pool.Pool.order.Goals as goal

-- an order that closes the core comes first, if it is closed
pub loop-core-preserved : goal.loop-core-preserved
loop-core-preserved g c = elim c.if-is_closed.branch [
  | then-is_closed+in_ok-insert w ↦
      let first = AreReady-closed_first c.args.self.now.cores c.loop-core.core c.args.orders.items c.loop-core.orders.items in search rules
  | else-is_closed w ↦ search rules
]
