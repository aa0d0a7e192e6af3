-- A list of orders none of which is at fault is in order.
use Rattle.std.proofs.Common.{◌≡◌, ◌≢◌, ℕ, ◌<◌, ◌≤◌, suc, List, length, get_or, None, arith, add-one}
use Rattle.std.proofs.lemmas.{Grind.common_steps, List.get_or_default}
use Rattle.arachne_policy.specs.declared.orders.{CoreOrder.CoreOrder, OrderKind.TheVariants.Release}
use Rattle.arachne_policy.specs.Orders.{order_fault, order_at, due_before, fault_at, AreInOrder}

-- the facts about an order without fault
names_core : (cores previous : ℕ) (order : CoreOrder) → order_fault cores previous order ≡ None → order.core < cores
names_core cores previous order h = grind (arith, common_steps, h)

keeps_core_zero : (cores previous : ℕ) (order : CoreOrder) → order_fault cores previous order ≡ None → order.kind ≡ Release → order.core ≢ 0
keeps_core_zero cores previous order h is_release zero = grind (arith, common_steps, h, is_release, zero)

is_due : (cores previous : ℕ) (order : CoreOrder) → order_fault cores previous order ≡ None → previous ≤ order.after
is_due cores previous order h = grind (arith, common_steps, h)

-- an order may be read with any default
any_default : (orders : List CoreOrder) (place : ℕ) (d : CoreOrder) → place < length orders → get_or orders place d ≡ order_at orders place
any_default orders place d h = get_or_default orders place d _ h

pub AreInOrder-from_none : (cores : ℕ) (orders : List CoreOrder) → ((place : ℕ) → place < length orders → fault_at cores orders place ≡ None)
    → AreInOrder cores orders
AreInOrder-from_none cores orders none = record {
  name_cores = λ place d h. rw (any_default orders place d h) (names_core cores (due_before orders place) (order_at orders place) (none place h));
  keep_core_zero = λ place d h. rw (any_default orders place d h) (keeps_core_zero cores (due_before orders place) (order_at orders place) (none place h));
  never_fall = λ place h. rw add-one
      (is_due cores (order_at orders place).after (order_at orders (suc place)) (none (suc place) (omega arith)));
}
