use Rattle.std.proofs.Common.{◌≡◌, take}
use Rattle.arachne_machine.proofs.line.copy_of.Given as goal

abbrev pub invariant-loop-k : goal.invariant-loop-k
invariant-loop-k l = l.copy ≡ take l.k l.name
