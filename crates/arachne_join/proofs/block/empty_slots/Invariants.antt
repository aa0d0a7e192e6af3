use Rattle.std.proofs.Common.{◌≡◌, replicate}
use Rattle.arachne_join.specs.declared.part.Content.TheVariants.{Empty}
use Rattle.arachne_join.proofs.block.empty_slots.Given as goal

abbrev pub invariant-loop : goal.invariant-loop
invariant-loop g l = l.slots.items ≡ replicate l.counter Empty
