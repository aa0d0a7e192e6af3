use Rattle.std.proofs.Common.{◌≡◌, ℕ}
use Rattle.arachne_exec.specs.Changes.{having_seen, lying}
use Rattle.arachne_exec.proofs.executor.Executor.lie_down.Given as goal

abbrev pub invariant-loop-next : goal.invariant-loop-next
invariant-loop-next l = record {
  seen : (found : ℕ) × (l.seat ≡ record l.fn.seat { known = having_seen l.next (lying l.worker found l.fn.seat.known) });
}
