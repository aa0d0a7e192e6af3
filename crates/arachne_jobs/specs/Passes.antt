-- The invariant of a pass (a right to use the queue).
use Rattle.std.specs.Prelude.{◌≡◌, ℕ, []}
use Rattle.crossbeam_queue.specs.Passes.{Pass, view}
use Rattle.arachne_weights.specs.{declared.token.Token.Token, Tokens.held}
use Rattle.arachne_jobs.specs.declared.spill.Known.{Known}

-- true if the pass has this weight, and has claimed no slot of the queue
pub record IsHeld {T : Type 0} (weight : ℕ) (pass : Pass T (Token Known)) : Type 0 where
  pub mine : view pass ≡ held weight (view pass).known
  pub none_out : pass.me.1 ≡ []
