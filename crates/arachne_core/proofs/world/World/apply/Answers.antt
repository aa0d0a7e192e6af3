use Rattle.arachne_core.specs.ContextTable.{ContextTable, world_of}
use Rattle.std.proofs.Common.{ap, ◌∙◌}
use Rattle.arachne_core.proofs.TableEvents.{answers_owned_once, answers_cores, answers_slots}
use Rattle.arachne_core.proofs.world.World.apply.Goals as goal

pub invariant_of-self : goal.invariant_of-self
invariant_of-self c = answers_owned_once c.args.event c.self.inside.tables c.make.new.self c.make.result c.self.invariant c.make.ensures

pub returns-clause-owned_once : goal.returns-clause-owned_once
returns-clause-owned_once c = answers_owned_once c.args.event c.self.inside.tables c.make.new.self c.make.result c.self.invariant c.make.ensures

pub returns-clause-cores : goal.returns-clause-cores
returns-clause-cores c =
    answers_cores c.args.event c.self.inside.tables c.make.new.self c.make.result c.make.ensures ∙ ap (λ (t : ContextTable). (world_of t).cores) c.self.view_is

pub returns-clause-slots : goal.returns-clause-slots
returns-clause-slots c =
    answers_slots c.args.event c.self.inside.tables c.make.new.self c.make.result c.make.ensures ∙ ap (λ (t : ContextTable). (world_of t).slots) c.self.view_is
