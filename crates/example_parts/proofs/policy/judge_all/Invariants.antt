use Rattle.std.proofs.Common.{take}
use Rattle.arachne_policy.specs.State.{HasJudged}
use Rattle.example_parts.proofs.policy.judge_all.Given as goal

-- the samples so far are judged in turn
abbrev pub invariant-loop-sample : goal.invariant-loop-sample
invariant-loop-sample l = HasJudged l.fn.estimator.settings (take l.sample-index l.samples) l.answers.items l.estimator
