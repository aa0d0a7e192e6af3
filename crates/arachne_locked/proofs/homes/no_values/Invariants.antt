use Rattle.std.proofs.Common.{◌≡◌, None, replicate}
use Rattle.arachne_locked.proofs.homes.no_values.Given as goal

abbrev pub invariant-loop : goal.invariant-loop
invariant-loop g l = l.values.items ≡ replicate l.counter None
