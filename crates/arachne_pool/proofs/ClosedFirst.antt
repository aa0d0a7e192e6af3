-- An order that closes a core at once may come before orders that are in order.
use Rattle.std.proofs.Common.{◌≡◌, refl, ◌≢◌, ℕ, zero, suc, ◌+◌, ◌<◌, ◌≤◌, List, [], ◌∷◌, length, All, arith, add-one}
use Rattle.std.proofs.lemmas.List.Elements.{All-nil}
use Rattle.arachne_policy.specs.declared.orders.CoreOrder.{CoreOrder}
use Rattle.arachne_policy.specs.declared.orders.OrderKind.TheVariants.{Release}
use Rattle.arachne_policy.specs.Orders.{order_at, AreInOrder}
use Rattle.arachne_pool.specs.Workers.{ComeLast}

abbrev pub closing : ℕ → CoreOrder
closing core = record { after = 0; kind = Release; core = core }

-- what each order and the first one are, each of both is
each_with_first : (P : CoreOrder → Type 0) (first : CoreOrder) (orders : List CoreOrder) → P first → All P orders → All P (first ∷ orders)
each_with_first P first orders h all zero d within = h
each_with_first P first orders h all (suc place) d within = all place d (omega arith)

from_zero : (number : ℕ) → 0 ≤ number
from_zero number = omega arith

never_falls : (core : ℕ) (orders : List CoreOrder)
    → ((place : ℕ) → place + 1 < length orders → (order_at orders place).after ≤ (order_at orders (place + 1)).after)
    → (place : ℕ) → place + 1 < length (closing core ∷ orders)
    → (order_at (closing core ∷ orders) place).after ≤ (order_at (closing core ∷ orders) (place + 1)).after
never_falls core orders rising zero within = from_zero (order_at (closing core ∷ orders) (zero + 1)).after
never_falls core orders rising (suc place) within =
    let risen : (order_at orders place).after ≤ (order_at orders (suc place)).after = rw (← add-one) (rising place (omega arith)) in rw add-one risen

pub AreInOrder-closed_first : (cores core : ℕ) (orders : List CoreOrder) → core < cores → core ≢ 0 → AreInOrder cores orders
    → AreInOrder cores (closing core ∷ orders)
AreInOrder-closed_first cores core orders below other in_order = record {
  name_cores = each_with_first (λ order. order.core < cores) (closing core) orders below in_order.name_cores;
  keep_core_zero = each_with_first (λ order. order.kind ≡ Release → order.core ≢ 0) (closing core) orders (λ _. other) in_order.keep_core_zero;
  never_fall = never_falls core orders in_order.never_fall;
}

pub ComeLast-all : (orders : List CoreOrder) → ComeLast orders orders
ComeLast-all orders = record { closing = []; both = refl; close = All-nil (λ order. (order.kind ≡ Release) × (order.after ≡ 0)) }

pub ComeLast-closed_first : (core : ℕ) (orders list : List CoreOrder) → ComeLast orders list → ComeLast orders (closing core ∷ list)
ComeLast-closed_first core orders list last = record {
  closing = closing core ∷ last.closing;
  both = rw last.both refl;
  close = each_with_first (λ order. (order.kind ≡ Release) × (order.after ≡ 0)) (closing core) last.closing (refl, refl) last.close;
}

-- orders with which a worker may go on: they are in order, and those that were given come last
pub record AreReady (cores : ℕ) (given list : List CoreOrder) : Type 0 where
  pub in_order : AreInOrder cores list
  pub last : ComeLast given list

pub AreReady-all : (cores : ℕ) (orders : List CoreOrder) → AreInOrder cores orders → AreReady cores orders orders
AreReady-all cores orders in_order = record { in_order = in_order; last = ComeLast-all orders }

pub AreReady-closed_first : (cores core : ℕ) (given list : List CoreOrder) → core < cores → core ≢ 0 → AreReady cores given list
    → AreReady cores given (closing core ∷ list)
AreReady-closed_first cores core given list below other ready = record {
  in_order = AreInOrder-closed_first cores core list below other ready.in_order;
  last = ComeLast-closed_first core given list ready.last;
}
