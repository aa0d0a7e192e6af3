use Rattle.std.specs.Prelude.{◌≡◌, ◌<◌, ◌≤◌, ℕ, IsSome, IsTrue}
use Rattle.arachne_judge.specs.Breaks.{AreDue, is_early, order_at}
use Rattle.arachne_judge.proofs.case.Case.applied.Given as goal

abbrev pub invariant-loop-nth : goal.invariant-loop-nth
invariant-loop-nth l = record {
  same : l.self ≡ record l.initial.self { cores = l.self.cores; counts = l.self.counts; broken = l.self.broken };
  stands : IsSome l.initial.self.broken → l.self.broken ≡ l.initial.self.broken;
  due : AreDue l.initial.self l.orders → l.self.broken ≡ l.initial.self.broken;
  early : (nth : ℕ) → l.initial.self.applied ≤ nth → nth < l.nth → IsTrue (is_early l.initial.self (order_at l.initial.self nth)) → IsSome l.self.broken;
}
