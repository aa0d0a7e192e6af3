use Rattle.std.proofs.Common.{◌≡◌, ◌+◌, ◌≤◌, ◌++◌, take, vec_len, vec_capacity, reverse}
use Rattle.arachne_machine.specs.Strands.{moved_parents}
use Rattle.arachne_machine.proofs.level.move_parents.Given as goal

abbrev pub invariant-loop-i : goal.invariant-loop-i
invariant-loop-i l = record {
  moved : reverse l.parents.items ≡ moved_parents l.start l.place (reverse (take l.i l.others)) ++ reverse l.initial.parents.items;
  long : vec_len l.parents ≡ vec_len l.initial.parents + l.i;
  room : vec_capacity l.initial.parents ≤ vec_capacity l.parents;
}
