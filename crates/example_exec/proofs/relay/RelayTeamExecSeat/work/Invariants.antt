use Rattle.std.proofs.Common.{◌≡◌, ◌+◌}
use Rattle.example_exec.specs.Relay.{HasNone}
use Rattle.example_exec.proofs.relay.RelayTeamExecSeat.work.Given as goal

abbrev pub invariant-loop : goal.invariant-loop
invariant-loop g l = HasNone l.fn.self.executor l.share × (l.share.known.worker ≡ l.worker + 1)
