use Rattle.std.proofs.Common.{◌≡◌}
use Rattle.arachne_pool.proofs.seat.Seat.fetch.Given as goal

-- the seat is one at the same table
abbrev pub invariant-loop-core : goal.invariant-loop-core
invariant-loop-core g l = l.self ≡ l.initial.self
