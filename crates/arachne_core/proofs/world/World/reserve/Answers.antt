use Rattle.arachne_core.specs.{ContextTable.{ContextTable, world_of}, OwnedOnce.OwnedOnce}
use Rattle.std.proofs.Common.{sym, subst}
use Rattle.arachne_core.proofs.world.World.reserve.Goals as goal

pub invariant_of-self : goal.invariant_of-self
invariant_of-self c = subst (λ (t : ContextTable). OwnedOnce (world_of t)) (sym c.reserve.ensures.kept) c.self.invariant

pub returns-clause-owned_once : goal.returns-clause-owned_once
returns-clause-owned_once c = subst (λ (t : ContextTable). OwnedOnce (world_of t)) (sym c.reserve.ensures.kept) c.self.invariant
