use Rattle.std.{proofs.Common.{◌≡◌, ◌≤◌, ℕ, length, vec_len}, specs.Vec.vec_capacity}
use Rattle.arachne_core.specs.ContextTable.{world_of}
use Rattle.arachne_locked.specs.{AtHome.value_at, Closing.at_rest_below}
use Rattle.arachne_locked.proofs.homes.Homes.close.Given as goal

abbrev pub invariant-loop-context : goal.invariant-loop-context
invariant-loop-context g l = record {
  so_far : l.rest.items ≡ at_rest_below (world_of l.fn.self.table) l.fn.self.values l.context;
  left : (x : ℕ) → l.context ≤ x → value_at l.values.items x ≡ value_at l.fn.self.values x;
  sized : length l.values.items ≡ length l.fn.self.values;
  counted : vec_len l.rest ≤ l.context;
  room : length l.fn.self.values ≤ vec_capacity l.rest;
}
