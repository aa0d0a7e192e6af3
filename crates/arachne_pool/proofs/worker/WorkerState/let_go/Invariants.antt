use Rattle.std.proofs.Common.{◌≡◌, ◌+◌}
use Rattle.arachne_pool.specs.Jobs.{count_near}
use Rattle.arachne_pool.proofs.worker.WorkerState.let_go.Given as goal

-- after each that was let go none is lost, it is the same job, and what else the worker has is as before
abbrev pub invariant-loop : goal.invariant-loop
invariant-loop g l =
    (l.self ≡ record l.initial.self { near = l.self.near })
    × (l.job ≡ record l.initial.job { many = l.job.many; jobs = l.job.jobs })
    × (count_near l.self.near.items + l.job.many ≡ count_near l.initial.self.near.items + l.initial.job.many)
