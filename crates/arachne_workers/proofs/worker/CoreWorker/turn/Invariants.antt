use Rattle.std.proofs.Common.{◌≡◌, ◌≤◌}
use Rattle.arachne_workers.proofs.worker.CoreWorker.turn.Given as goal

abbrev pub invariant-loop : goal.invariant-loop
invariant-loop g l =
    (l.self.dispatch ≡ l.initial.self.dispatch) × (l.self.queue.scan ≡ l.initial.self.queue.scan)
    × (l.self.queue.lag.most ≡ l.initial.self.queue.lag.most) × (l.quantum ≤ l.self.queue.lag.most)
