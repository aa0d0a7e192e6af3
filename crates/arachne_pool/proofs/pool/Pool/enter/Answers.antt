use Rattle.std.proofs.Common.{rules}
use Rattle.arachne_pool.specs.Workers.{IsArbiterFor, IsIdleAt}
use Rattle.arachne_pool.proofs.pool.Pool.enter.Goals as goal

-- the worker's seat is idle, so nothing is out with it
pub invariant_of-result : goal.invariant_of-result
invariant_of-result g c =
    let orders : IsArbiterFor c.args.self.now.cores c.state.inside.state.orders = search rules in
    let idle : IsIdleAt g.C.Seats.sits g.C.Seats.idle c.args.self.now.table c.in_ok-seat.seat = search rules in
    (search rules, idle.0, orders, λ _. g.met.C.Contexts.nothing_out c.args.self.now.table c.in_ok-seat.seat idle.1)
