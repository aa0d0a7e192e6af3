-- The order of the recursion: from a helper to the expression that it takes, and from that to its parts. A half of a
-- range is shorter than the range, which has less than 2 ^ 64 numbers.
use Rattle.std.proofs.Common.{◌≡◌, ℕ, ◌+◌, ◌*◌, ◌^◌, max, length}
use Rattle.arachne_program.specs.{Program.{tree_of, source_of}, Nesting.nesting, Value.with_newest}
use Rattle.arachne_lang.specs.Evaluation.{IsFolded, IsReduced, HasLines}
use Rattle.arachne_lang.proofs.evaluator.Evaluator.+evaluation.Given as goal

abbrev pub decreases-value : goal.decreases-value
decreases-value l = 2 ^ 66 * nesting (tree_of l.expr.now)

abbrev pub decreases-run : goal.decreases-run
decreases-run l = 2 ^ 66 * nesting (tree_of l.expr.now) + 1

abbrev pub decreases-after : goal.decreases-after
decreases-after l = 2 ^ 66 * nesting (tree_of l.expr.now) + 1

abbrev pub decreases-fork : goal.decreases-fork
decreases-fork l = 2 ^ 66 * max (nesting (tree_of l.child.now)) (max (nesting (tree_of l.during.now)) (nesting (tree_of l.after.now))) + 2

abbrev pub decreases-turns : goal.decreases-turns
decreases-turns l = 2 ^ 66 * nesting (tree_of l.body.now) + 1

abbrev pub decreases-halves : goal.decreases-halves
decreases-halves l = 2 ^ 66 * nesting (tree_of l.reducer.body.now) + 2 * l.n + 2

abbrev pub decreases-run_half : goal.decreases-run_half
decreases-run_half l = 2 ^ 66 * nesting (tree_of l.reducer.body.now) + 2 * l.n + 3

abbrev pub decreases-reduce : goal.decreases-reduce
decreases-reduce l = 2 ^ 66 * nesting (tree_of l.reducer.body.now) + 1

abbrev pub decreases-body : goal.decreases-body
decreases-body l = 2 ^ 66 * nesting (tree_of l.expr.now) + 1

-- The iterations so far were made, and the newest variables are those of the last one.
abbrev pub invariant-turns-loop-turn : goal.invariant-turns-loop-turn
invariant-turns-loop-turn l = record {
  turned : IsFolded (source_of l.self.program.now) (tree_of l.body) l.fn.shared.environment.items l.from l.first l.turn l.fn.own l.fn.shared l.so_far l.own l.shared;
  newest : (x : ℕ) × (y : ℕ) × (l.shared.environment.items ≡ with_newest (with_newest l.fn.shared.environment.items x) y);
  lines : HasLines l.fn.own l.fn.shared l.own l.shared;
  variables : l.variables ≡ length l.fn.shared.environment.items;
}

abbrev pub invariant-reduce-loop-turn : goal.invariant-reduce-loop-turn
invariant-reduce-loop-turn l = record {
  turned : IsReduced (source_of l.self.program.now) l.reducer.reduction (tree_of l.reducer.body.now) l.fn.shared.environment.items l.first l.turn l.fn.own l.fn.shared l.so_far l.own l.shared;
  newest : (x : ℕ) × (l.shared.environment.items ≡ with_newest l.fn.shared.environment.items x);
  lines : HasLines l.fn.own l.fn.shared l.own l.shared;
  variables : l.variables ≡ length l.fn.shared.environment.items;
}
