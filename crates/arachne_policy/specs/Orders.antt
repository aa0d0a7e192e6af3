-- Lists of core orders that are in order.
use Rattle.std.specs.Prelude.{◌≡◌, ◌≢◌, ℕ, zero, suc, ◌+◌, ◌<◌, ◌≤◌, Bool, true, false, ◌&&◌, ◌==◌, nat_lt, nat_le, if◌then◌else◌, List, length, slice_index_or, All, Option, Some, None}
use Rattle.arachne_policy.specs.declared.orders.{CoreOrder.CoreOrder, OrderKind.OrderKind}
use Rattle.arachne_policy.specs.declared.orders.{OrderKind.TheVariants.{Grant, Release}, OrderFault.OrderFault}
use Rattle.arachne_policy.specs.declared.orders.OrderFaultKind.{OrderFaultKind}
use Rattle.arachne_policy.specs.declared.orders.OrderFaultKind.TheVariants.{NoSuchCore, ReleasesCoreZero, AfterFalls}

abbrev pub is_release : OrderKind → Bool
is_release Grant = false
is_release Release = true

-- the fault of an order on this number of cores, after one that is due after `previous` slices: the first of these that
-- it has
abbrev pub order_fault : ℕ → ℕ → CoreOrder → Option OrderFaultKind
order_fault cores previous order =
    if nat_le cores order.core then Some NoSuchCore
    else if is_release order.kind && (order.core == 0) then Some ReleasesCoreZero
    else if nat_lt order.after previous then Some AfterFalls
    else None

-- the order at a place below the list's length
abbrev pub order_at : List CoreOrder → ℕ → CoreOrder
order_at orders place = slice_index_or orders place (record { after = 0; kind = Grant; core = 0 })

-- the number of slices after which the order before a place is due; 0 if it is the first place
abbrev pub due_before : List CoreOrder → ℕ → ℕ
due_before orders zero = 0
due_before orders (suc place) = (order_at orders place).after

-- the fault of the order at a place, if it has one
abbrev pub fault_at : ℕ → List CoreOrder → ℕ → Option OrderFaultKind
fault_at cores orders place = order_fault cores (due_before orders place) (order_at orders place)

-- the order at this index has this fault, and each order before it has none
pub record IsFirstFault (cores : ℕ) (orders : List CoreOrder) (fault : OrderFault) : Type 0 where
  pub within : fault.index < length orders
  pub at_fault : fault_at cores orders fault.index ≡ Some fault.kind
  pub none_before : (place : ℕ) → place < fault.index → fault_at cores orders place ≡ None

-- each order names a core, none releases core 0, and none is due before the order that precedes it
pub record AreInOrder (cores : ℕ) (orders : List CoreOrder) : Type 0 where
  pub name_cores : All (λ order. order.core < cores) orders
  pub keep_core_zero : All (λ order. order.kind ≡ Release → order.core ≢ 0) orders
  pub never_fall : (place : ℕ) → place + 1 < length orders → (order_at orders place).after ≤ (order_at orders (place + 1)).after
