use Rattle.std.proofs.Common.{◌≡◌}
use Rattle.arachne_workers.proofs.worker.CoreWorker.try_wake.Given as goal

abbrev pub invariant-loop : goal.invariant-loop
invariant-loop g l = (l.self.dispatch ≡ l.initial.self.dispatch) × (l.self.queue ≡ l.initial.self.queue) × (l.self.slices ≡ l.initial.self.slices)
