use Rattle.std.{proofs.Common.{◌≡◌, ℕ, ◌<◌, ◌≤◌, true, false, get_or, vec_len}, specs.Vec.vec_capacity}
use Rattle.std.specs.Slots.{IsFull, slots_items, slots_filled, slots_len}
use Rattle.arachne_words.proofs.Leaving.{EndsWith, SoFar}
use Rattle.arachne_words.proofs.table.WordContexts.close.Given as goal

abbrev pub invariant-loop-context : goal.invariant-loop-context
invariant-loop-context g l = record {
  ends : EndsWith g.T.Tagged.tag_of l.fn.self.shape l.fn.seat.known (slots_items l.closed.words) (slots_items l.closed.slots);
  words : IsFull l.closed.words;
  long : (slots_len l.closed.words ≡ l.fn.self.table.words) × (slots_len l.closed.slots ≡ l.contexts);
  filled : (k : ℕ) → l.context ≤ k → k < l.contexts → get_or (slots_filled l.closed.slots) k false ≡ true;
  taken : (k : ℕ) → k < l.context → get_or (slots_filled l.closed.slots) k false ≡ false;
  so_far : SoFar l.left.items l.context (slots_items l.closed.words) (slots_items l.closed.slots);
  counted : vec_len l.left ≤ l.context;
  room : l.contexts ≤ vec_capacity l.left;
}
