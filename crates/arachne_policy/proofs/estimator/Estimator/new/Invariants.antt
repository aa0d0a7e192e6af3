use Rattle.std.proofs.Common.{◌≡◌, ℕ, ◌*◌, ◌<◌, get_or}
use Rattle.arachne_policy.proofs.estimator.Estimator.new.Given as goal

-- the entries so far are filled, and the next one follows
abbrev pub invariant-loop-entry : goal.invariant-loop-entry
invariant-loop-entry l = record {
  next : l.threshold ≡ 1000 * l.entry-index;
  filled : (k : ℕ) → k < l.entry-index → get_or l.entry-items k 0 ≡ 1000 * k;
}
