use Rattle.std.proofs.Common.{◌≡◌, ◌+◌, ◌≤◌, length, vec_len}
use Rattle.std.specs.VecDeque.{deque_len}
use Rattle.arachne_pool.specs.Workers.{IsWorkerOf}
use Rattle.example_server.proofs.send.send_all.Given as goal

-- between two rounds the worker is the pool's, and each request so far was answered or refused, or is sent
abbrev pub invariant-loop : goal.invariant-loop
invariant-loop g l =
    IsWorkerOf l.server.pool l.worker
    × (l.keeper.most + 1 ≡ l.server.pool.cores)
    × (vec_len l.report.answers + l.report.refused + deque_len l.sent ≡ l.next)
    × (l.next ≤ length l.server.requests.now)
