use Rattle.std.proofs.Common.{◌≡◌, ℕ, ◌-◌, ◌≤◌, ◌<◌, length}
use Rattle.arachne_policy.specs.Orders.{order_at}
use Rattle.arachne_arbiter.proofs.Kept.{IsKept}
use Rattle.arachne_arbiter.proofs.arbiter.Arbiter.apply_due.Given as goal

-- each order applied so far was due
abbrev pub invariant-loop : goal.invariant-loop
invariant-loop g l = record {
  seat : IsKept g.C.Seats.sits g.C.Seats.weight g.C.Contexts.has l.cores.table.now l.fn.seat l.seat;
  list : l.self.list ≡ l.fn.self.list;
  cores : l.self.cores ≡ l.fn.self.cores;
  rises : l.fn.self.applied ≤ l.self.applied;
  due : (place : ℕ) → l.fn.self.applied ≤ place → place < l.self.applied → (order_at l.fn.self.list place).after ≤ l.ended;
}

abbrev pub decreases-loop : goal.decreases-loop
decreases-loop g l = length l.self.list - l.self.applied
