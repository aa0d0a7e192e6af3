use Rattle.std.proofs.Common.{ℕ, ◌<◌, [], get_or, map}
use Rattle.arachne_run.specs.Histories.{IsGrantedAsHeld}
use Rattle.arachne_run.proofs.report.are_grants_holds.Given as goal

abbrev pub invariant-loop-lock : goal.invariant-loop-lock
invariant-loop-lock l = (k : ℕ) → k < l.lock → IsGrantedAsHeld k l.threads (get_or (map (λ history. history.items) l.histories) k [])
