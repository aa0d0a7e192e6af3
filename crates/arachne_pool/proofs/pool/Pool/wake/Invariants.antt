use Rattle.arachne_pool.specs.Workers.{IsIdleAt}
use Rattle.arachne_pool.proofs.pool.Pool.wake.Given as goal

-- between two tries the seat is idle
abbrev pub invariant-loop : goal.invariant-loop
invariant-loop g l = IsIdleAt g.C.Seats.sits g.C.Seats.idle l.self.table l.seat
