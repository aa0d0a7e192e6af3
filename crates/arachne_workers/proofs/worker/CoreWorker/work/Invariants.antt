use Rattle.std.proofs.Common.{◌≡◌}
use Rattle.arachne_workers.specs.RunQueues.{LooksWithin}
use Rattle.arachne_workers.proofs.worker.CoreWorker.work.Given as goal

abbrev pub invariant-loop : goal.invariant-loop
invariant-loop g l =
    (l.self.dispatch ≡ l.initial.self.dispatch)
    × LooksWithin (g.D.Dispatch.largest_quantum l.initial.self.dispatch) l.initial.self.queue l.self.queue
