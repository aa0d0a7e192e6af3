use Rattle.std.proofs.Common.{◌≡◌, ◌+◌, ◌≤◌, ◌++◌, vec_len, vec_capacity}
use Rattle.arachne_program.specs.Effects.{tabulated}
use Rattle.arachne_machine.proofs.tables.push_zeros.Given as goal

abbrev pub invariant-loop : goal.invariant-loop
invariant-loop l = record {
  items : l.numbers.items ≡ l.fn.numbers.items ++ tabulated l.counter (λ _. 0);
  room : vec_len l.numbers + l.n ≤ vec_capacity l.numbers + l.counter;
}
