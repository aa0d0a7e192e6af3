use Rattle.std.proofs.Common.{◌≡◌, ◌≤◌, true, ap, arith, sym, ◌∙◌}
use Rattle.arachne_policy.specs.{declared.samples.Advice.TheVariants.Remove, Sample.is_good, Advice.advice_by}
use Rattle.arachne_policy.specs.State.{most_cores, threshold_at}
use Rattle.arachne_policy.proofs.Records.{keeps-added}
use Rattle.arachne_policy.proofs.estimator.Estimator.estimate.Goals as goal

pub returns-else-eq-clause-hysteresis : goal.returns-else-eq-clause-hysteresis
returns-else-eq-clause-hysteresis c past added stands record_stands one_more close removed =
    let max_is : c.self.inside.max ≡ c.args.self.now.settings.max = ap (λ v. v.settings.max) c.self.view_is in
    let few : c.self.inside.max ≤ most_cores = c.self.invariant in
    let good : is_good c.args.self.now.settings.max c.args.sample ≡ true = ap (λ max. is_good max c.args.sample) (sym max_is) ∙ sym c.is_good.ensures ∙ c.if-not-is_good.false in
    let is_remove : advice_by c.args.self.now.settings (threshold_at c.args.self.now) c.args.sample ≡ Remove = (let h3 = c.advise-advice.ensures in cc) in
    keeps-added c.args.self.now past added c.args.sample (omega arith) good stands record_stands one_more close is_remove
