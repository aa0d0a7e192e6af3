-- The cores that must be drained, as orders are applied.
use Rattle.std.proofs.Common.{◌≡◌, ℕ, ◌+◌, Bool, true, false, cond, eqb, List, refl, arith, ◌∙◌, add-one}
use Rattle.std.proofs.{Math.ListN.set, lemmas.{List.length-set, Grind.common_steps}}
use Rattle.arachne_policy.specs.{declared.orders.CoreOrder.CoreOrder, Orders.is_release}
use Rattle.arachne_arbiter.specs.declared.orders.Effect.TheVariants.{Closes, Opens}
use Rattle.arachne_arbiter.specs.Orders.{Progress, is_closed_after, effect_of, next_order, next_effect, with_next, AreDraining}

is_closed-next : (p : Progress) (core : ℕ)
    → is_closed_after p.list (p.applied + 1) core ≡ cond (eqb (next_order p).core core) (is_release (next_order p).kind) (is_closed_after p.list p.applied core)
is_closed-next p core = rw (add-one p.applied) refl

-- an order that closes a core is a release of that core
release-closes : (order : CoreOrder) (closed : Bool) (core : ℕ) → effect_of order closed ≡ Closes core
    → (is_release order.kind ≡ true) × (order.core ≡ core)
release-closes order true core is = grind (arith, common_steps, is)
release-closes order false core is = grind (arith, common_steps, is)

-- a core that an order closes must be drained
pub AreDraining-closes : (p : Progress) (waiting : List Bool) (core : ℕ) → AreDraining p waiting → next_effect p ≡ Closes core
    → AreDraining (with_next p) (set waiting core true)
AreDraining-closes p waiting core draining is = record {
  sized = length-set waiting core true ∙ draining.sized;
  closed = λ other below waits.
      let release = release-closes (next_order p) _ core is in
      let next = is_closed-next p other in
      let was = draining.closed other below in
      grind (arith, common_steps, waits, release.0, release.1, next, was);
}

-- an order that opens a core is a grant of that core
grant-opens : (order : CoreOrder) (closed : Bool) (core : ℕ) → effect_of order closed ≡ Opens core
    → (is_release order.kind ≡ false) × (order.core ≡ core)
grant-opens order true core is = grind (arith, common_steps, is)
grant-opens order false core is = grind (arith, common_steps, is)

-- a core that an order opens need no longer be drained
pub AreDraining-opens : (p : Progress) (waiting : List Bool) (core : ℕ) → AreDraining p waiting → next_effect p ≡ Opens core
    → AreDraining (with_next p) (set waiting core false)
AreDraining-opens p waiting core draining is = record {
  sized = length-set waiting core false ∙ draining.sized;
  closed = λ other below waits.
      let grant = grant-opens (next_order p) _ core is in
      let next = is_closed-next p other in
      let was = draining.closed other below in
      grind (arith, common_steps, waits, grant.0, grant.1, next, was);
}
