use Rattle.std.proofs.Common.{◌≡◌, ◌⊎◌, ℕ, ◌+◌, ◌*◌, ◌-◌, ◌<◌, ◌≤◌}
use Rattle.arachne_exec.specs.Calls.{HasLooked, IsSearched, KeepsHand}
use Rattle.arachne_exec.proofs.executor.Executor.next.Given as goal

abbrev pub invariant-loop-shard : goal.invariant-loop-shard
invariant-loop-shard l = record {
  seat : l.seat ≡ record l.fn.seat { known = l.seat.known };
  looked : (found : HasLooked l.worker l.fn.seat.known l.seat.known)
      × ((j : ℕ) → j < l.round.count → ((l.round.first ≤ j) × (j < l.round.first + l.round.index)) ⊎ (j + l.round.count < l.round.first + l.round.index) → IsSearched (l.worker + 64 * j) found.1);
  hand : KeepsHand l.fn.seat.known l.seat.known;
  worker : l.round.worker ≡ l.worker;
  first : l.round.first ≤ l.round.count;
  all : (j : ℕ) → l.worker + 64 * j < l.self.shards → j < l.round.count;
  inside : (j : ℕ) → j < l.round.count → l.worker + 64 * j < l.self.shards;
}

abbrev pub decreases-loop-shard : goal.decreases-loop-shard
decreases-loop-shard l = l.round.count - l.round.index
