use Rattle.std.proofs.Common.{◌≡◌, ℕ, ◌<◌, None}
use Rattle.arachne_policy.specs.Orders.{due_before, fault_at}
use Rattle.arachne_policy.proofs.orders.check_orders.Given as goal

-- no order so far is at fault
abbrev pub invariant-loop-index : goal.invariant-loop-index
invariant-loop-index l = record {
  due : l.previous ≡ due_before l.orders l.index;
  none : (place : ℕ) → place < l.index → fault_at l.cores l.orders place ≡ None;
}
