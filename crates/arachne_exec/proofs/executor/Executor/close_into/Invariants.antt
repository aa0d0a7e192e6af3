use Rattle.std.proofs.Common.{◌≡◌, ℕ, ◌<◌, ◌≤◌, true, false, get_or, vec_len}
use Rattle.std.specs.{Vec.vec_capacity, Slots.{slots_items, slots_filled, slots_len}}
use Rattle.arachne_exec.proofs.Leaving.{EndsWith, SoFar}
use Rattle.arachne_exec.proofs.executor.Executor.close_into.Given as goal

abbrev pub invariant-loop-place : goal.invariant-loop-place
invariant-loop-place l = record {
  ends : EndsWith l.fn.self.shards l.fn.seat.known (slots_items l.closed.words) (slots_items l.closed.slots);
  long : slots_len l.closed.slots ≡ l.places;
  filled : (k : ℕ) → l.place ≤ k → k < l.places → get_or (slots_filled l.closed.slots) k false ≡ true;
  taken : (k : ℕ) → k < l.place → get_or (slots_filled l.closed.slots) k false ≡ false;
  so_far : SoFar l.left.items l.place (slots_items l.closed.slots);
  counted : vec_len l.left ≤ l.place;
  room : l.places ≤ vec_capacity l.left;
}
