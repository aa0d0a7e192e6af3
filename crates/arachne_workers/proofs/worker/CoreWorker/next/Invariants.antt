use Rattle.std.proofs.Common.{◌≡◌, None}
use Rattle.arachne_workers.proofs.worker.CoreWorker.next.Given as goal

abbrev pub invariant-loop : goal.invariant-loop
invariant-loop g l =
    (l.self.dispatch ≡ l.initial.self.dispatch) × (l.self.slices ≡ l.initial.self.slices) × (l.self.queue ≡ record l.initial.self.queue { posts = l.self.queue.posts; next = None })
