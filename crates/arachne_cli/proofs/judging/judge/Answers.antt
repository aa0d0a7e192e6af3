use Rattle.std.proofs.Common.{◌≡◌, ◌<◌, ◌∙◌, length, get_or, true, false, sym, ap, arith, string_bytes}
use Rattle.arachne_policy.specs.{Sample.is_good, Advice.{Settings as Bounds}}
use Rattle.arachne_cli.proofs.JudgedInTurn.{some_sample, written_more, first_bad}
use Rattle.arachne_cli.proofs.judging.judge.Goals as goal

pub returns-in_default-clause-bad : goal.returns-in_default-clause-bad
returns-in_default-clause-bad c =
    let samples = c.args.samples.now in
    let i = c.loop-index.index in
    let below : c.loop-index.index < length c.args.samples.now = omega arith in
    let settings = c.loop-index.invariant.judged.keeps_settings in
    let bad : is_good c.args.settings.max (get_or c.args.samples.now c.loop-index.index some_sample) ≡ false =
    ap (λ (b : Bounds). is_good b.max (get_or samples i some_sample)) (sym settings) ∙ sym c.in_default.ensures.good in
    first_bad c.args.settings samples i below c.loop-index.invariant.good bad

pub loop-index-preserved : goal.loop-index-preserved
loop-index-preserved c =
    let samples = c.args.samples.now in
    let i = c.loop-index.index in
    let below : c.loop-index.index < length c.args.samples.now = omega arith in
    let settings = c.loop-index.invariant.judged.keeps_settings in
    let good : is_good c.args.settings.max (get_or c.args.samples.now c.loop-index.index some_sample) ≡ true =
    ap (λ (b : Bounds). is_good b.max (get_or samples i some_sample)) (sym settings) ∙ sym c.in-Ok.ensures.good in
    written_more c.args.settings samples i c.loop-index.estimator c.estimate.new.self (string_bytes c.loop-index.lines) (string_bytes c.writeln.new.self) c.in-Ok.advice below
    c.loop-index.invariant good c.in-Ok.ensures.after c.in-Ok.ensures.history c.in-Ok-writeln.ensures.bytes
