use Rattle.std.proofs.Common.{◌≡◌}
use Rattle.arachne_workers.specs.RunQueues.{LooksWithin}
use Rattle.arachne_workers.proofs.worker.CoreWorker.run_each.Given as goal

abbrev pub invariant-loop-index : goal.invariant-loop-index
invariant-loop-index g l =
    (l.self.dispatch ≡ l.initial.self.dispatch)
    × LooksWithin (g.D.Dispatch.largest_quantum l.initial.self.dispatch) l.initial.self.queue l.self.queue

-- the indexes that are left of the scan, as a number
abbrev pub decreases-loop-index : goal.decreases-loop-index
decreases-loop-index g l = l.self.queue.scan

abbrev pub invariant-loop : goal.invariant-loop
invariant-loop g l =
    (l.self.dispatch ≡ l.fn.self.dispatch) × (l.self.queue.scan ≡ l.initial.self.queue.scan)
    × LooksWithin (g.D.Dispatch.largest_quantum l.fn.self.dispatch) l.fn.self.queue l.self.queue
