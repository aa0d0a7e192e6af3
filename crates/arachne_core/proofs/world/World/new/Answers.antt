use Rattle.arachne_core.{specs.ContextTable.world_of, proofs.Runs.opening_owned_once}
use Rattle.arachne_core.proofs.world.World.new.Goals as goal

pub invariant_of-result : goal.invariant_of-result
invariant_of-result c = opening_owned_once (world_of c.in_ok-tables.tables) c.args.first_generation c.in_ok-tables.ensures.opening

pub returns-clause-owned_once : goal.returns-clause-owned_once
returns-clause-owned_once c = opening_owned_once (world_of c.in_ok-tables.tables) c.args.first_generation c.in_ok-tables.ensures.opening
