use Rattle.std.proofs.Common.{◌≡◌}
use Rattle.example_server.specs.Work.{mixed}
use Rattle.example_server.proofs.job.mix.Given as goal

-- this many rounds were made
abbrev pub invariant-loop : goal.invariant-loop
invariant-loop l = l.value ≡ mixed l.counter l.number
