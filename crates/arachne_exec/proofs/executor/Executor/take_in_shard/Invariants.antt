use Rattle.std.proofs.Common.{◌≡◌, ◌⊎◌, ℕ, ◌+◌, ◌*◌, ◌<◌}
use Rattle.std.specs.Int.{bit_at}
use Rattle.arachne_exec.specs.{Layout.{summary_at, worker_of}, Calls.{HasLooked, IsAmong, HasNoJob, KeepsHand}}
use Rattle.arachne_exec.proofs.executor.Executor.take_in_shard.Given as goal

abbrev pub invariant-loop-index : goal.invariant-loop-index
invariant-loop-index l = record {
  seat : l.seat ≡ record l.fn.seat { known = l.seat.known };
  looked : (found : HasLooked (worker_of l.shard) l.fn.seat.known l.seat.known) × IsAmong (summary_at l.shard) l.shown found.1
      × ((index : ℕ) → index < 64 → bit_at l.shown index ≡ 1 → (bit_at l.left.blocks index ≡ 1) ⊎ HasNoJob (64 * l.shard + index) found.1);
  hand : KeepsHand l.fn.seat.known l.seat.known;
}

abbrev pub decreases-loop-index : goal.decreases-loop-index
decreases-loop-index l = l.left.blocks
