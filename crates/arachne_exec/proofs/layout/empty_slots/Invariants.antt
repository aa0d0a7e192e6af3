use Rattle.std.proofs.Common.{◌≡◌, ◌*◌, ℕ, vec_len, slice_index}
use Rattle.arachne_exec.proofs.layout.empty_slots.Given as goal

abbrev pub invariant-loop : goal.invariant-loop
invariant-loop l = (vec_len l.slots ≡ 16 * l.counter) × ((i : ℕ) → slice_index l.slots.items i ≡ 0)
