use Rattle.std.proofs.Common.{◌≡◌, ℕ, ◌+◌, ◌<◌, ◌≤◌, get_or}
use Rattle.arachne_program.specs.Value.{wrapped}
use Rattle.arachne_machine.proofs.tables.add_each.Given as goal

abbrev pub invariant-loop-i : goal.invariant-loop-i
invariant-loop-i l = record {
  done : (k : ℕ) → k < l.i → get_or l.sums k 0 ≡ wrapped (get_or l.initial.sums k 0 + get_or l.more k 0);
  left : (k : ℕ) → l.i ≤ k → get_or l.sums k 0 ≡ get_or l.initial.sums k 0;
}
