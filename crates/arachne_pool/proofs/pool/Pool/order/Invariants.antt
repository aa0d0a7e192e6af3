use Rattle.arachne_pool.proofs.ClosedFirst.{AreReady}
use Rattle.arachne_pool.proofs.pool.Pool.order.Given as goal

-- with each core that is closed the orders stay in order, and those that were given come last
abbrev pub invariant-loop-core : goal.invariant-loop-core
invariant-loop-core g l = AreReady l.self.cores l.initial.orders.items l.orders.items
