use Rattle.std.{proofs.Common.◌≡◌, specs.List.range_with_len}
use Rattle.arachne_core.proofs.tables.first_residents.Given as goal

abbrev pub invariant-loop-number : goal.invariant-loop-number
invariant-loop-number l = l.residents.items ≡ range_with_len 0 l.number
