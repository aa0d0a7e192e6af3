use Rattle.std.proofs.Common.{◌≡◌}
use Rattle.arachne_commands.specs.Running.{choosers_of}
use Rattle.arachne_commands.proofs.running.choosers.Given as goal

-- those of the cores so far
abbrev pub invariant-loop-core : goal.invariant-loop-core
invariant-loop-core l = l.choosers.items ≡ choosers_of l.seed l.core
