-- The orders of a run that were applied, and what they have done to its cores.
use Rattle.std.specs.Prelude.{◌≡◌, ℕ, zero, suc, ◌+◌, ◌<◌, ◌≤◌, Bool, true, false, ◌==◌, if◌then◌else◌, List, length, slice_index_or, All}
use Rattle.arachne_policy.specs.{declared.orders.CoreOrder.CoreOrder, Orders.{order_at, is_release}}
use Rattle.arachne_arbiter.specs.declared.orders.Effect.{Effect, TheVariants.{Closes, Opens, Nothing}}

-- the orders, the number of cores, and the number of orders that were applied
pub record Progress : Type 0 where
  pub list : List CoreOrder
  pub cores : ℕ
  pub applied : ℕ

-- of the first n orders, the last one that names the core is a release
abbrev pub is_closed_after : List CoreOrder → ℕ → ℕ → Bool
is_closed_after list zero core = false
is_closed_after list (suc n) core =
    if (order_at list n).core == core then is_release (order_at list n).kind else is_closed_after list n core

-- the effect of an order on its core, which is closed (true) or open
abbrev pub effect_of : CoreOrder → Bool → Effect
effect_of order true = if is_release order.kind then Nothing else Opens order.core
effect_of order false = if is_release order.kind then Closes order.core else Nothing

-- the effect is on one of `cores` cores
abbrev pub IsWithin : ℕ → Effect → Type 0
IsWithin cores (Closes core) = core < cores
IsWithin cores (Opens core) = core < cores
IsWithin cores Nothing = Unit {0}

-- the next order
abbrev pub next_order : Progress → CoreOrder
next_order p = order_at p.list p.applied

-- there is a next order, and it is due after `ended` slices
abbrev pub IsDue : Progress → ℕ → Type 0
IsDue p ended = (p.applied < length p.list) × ((next_order p).after ≤ ended)

-- there is no next order, or it is not due after `ended` slices
abbrev pub IsNoneDue : Progress → ℕ → Type 0
IsNoneDue p ended = p.applied < length p.list → ended < (next_order p).after

-- one more order is applied
abbrev pub with_next : Progress → Progress
with_next p = record p { applied = p.applied + 1 }

-- the effect of the next order
abbrev pub next_effect : Progress → Effect
next_effect p = effect_of (next_order p) (is_closed_after p.list p.applied (next_order p).core)

-- each order that is due after `ended` slices was applied, and no other
pub record HasAppliedDue (old new : Progress) (ended : ℕ) : Type 0 where
  pub kept : new ≡ record old { applied = new.applied }
  pub rises : old.applied ≤ new.applied
  pub due : (place : ℕ) → old.applied ≤ place → place < new.applied → (order_at old.list place).after ≤ ended
  pub rest : IsNoneDue new ended

-- `closed` is true for each core that the orders applied so far have left closed, and for no other
pub record AreKept (list : List CoreOrder) (applied : ℕ) (closed : List Bool) : Type 0 where
  pub within : applied ≤ length list
  pub few : length closed < 256
  pub name_cores : All (λ order. order.core < length closed) list
  pub told : (core : ℕ) → core < length closed → slice_index_or closed core false ≡ is_closed_after list applied core

-- each core that must be drained is one that the orders have closed
pub record AreDraining (p : Progress) (waiting : List Bool) : Type 0 where
  pub sized : length waiting ≡ p.cores
  pub closed : (core : ℕ) → core < p.cores → slice_index_or waiting core false ≡ true → is_closed_after p.list p.applied core ≡ true
