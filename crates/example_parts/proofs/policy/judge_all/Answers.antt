use Rattle.std.proofs.Common.{◌<◌, length, take, reverse, arith}
use Rattle.std.proofs.lemmas.List.{take_more}
use Rattle.arachne_policy.proofs.InTurn.{HasJudged-push}
use Rattle.example_parts.proofs.policy.judge_all.Goals as goal

pub loop-sample-preserved : goal.loop-sample-preserved
loop-sample-preserved c =
    let more : c.loop-sample.sample-index < length c.args.samples.now = omega arith in
    let past = take c.loop-sample.sample-index c.args.samples.now in
    let answer = c.in_ok-estimate.ensures.history (reverse past) c.loop-sample.invariant.stands in
    let is_after = c.in_ok-estimate.ensures.after in
    rw (take_more c.args.samples.now c.loop-sample.sample-index (record { cores = 0; runnable = 0; scans = 0; busy = 0; elapsed = 0 }) more, c.in_ok-push.ensures.items)
    (HasJudged-push c.args.estimator.settings past c.loop-sample.answers.items c.loop-sample.estimator c.estimate.new.self _ c.in_ok-estimate.field-0
    c.loop-sample.invariant is_after answer)
