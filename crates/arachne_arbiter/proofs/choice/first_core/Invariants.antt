use Rattle.std.proofs.Common.{◌≡◌, ◌≤◌, length, take}
use Rattle.arachne_core.specs.declared.layout.TheConstants.{CORES}
use Rattle.arachne_arbiter.specs.Choice.{loads_of}
use Rattle.arachne_arbiter.proofs.choice.first_core.Given as goal

-- the candidates are those of the cores so far
abbrev pub invariant-loop-core : goal.invariant-loop-core
invariant-loop-core l = record {
  room : length l.loads ≡ CORES;
  fewer : l.candidates ≤ l.core;
  listed : take l.candidates l.loads ≡ loads_of l.occupancies l.core;
}
