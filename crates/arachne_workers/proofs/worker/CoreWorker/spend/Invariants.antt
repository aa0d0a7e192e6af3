use Rattle.std.proofs.Common.{◌≡◌, ◌+◌, ◌≤◌}
use Rattle.arachne_workers.proofs.worker.CoreWorker.spend.Given as goal

-- the steps that are left, and those that were made, are a quantum at most
abbrev pub invariant-loop : goal.invariant-loop
invariant-loop g l =
    (l.self.dispatch ≡ l.initial.self.dispatch) × (l.left + l.made ≤ l.fn.most)
    × (l.self.queue.lag.unread ≡ l.made) × (l.self.queue.lag.untended ≡ l.made) × (l.self.queue.lag.most ≡ l.initial.self.queue.lag.most)
    × (l.self.slices ≡ l.initial.self.slices) × (l.self.queue.scan ≡ l.initial.self.queue.scan)
