-- The estimator and the sample in the caller's memory.
use Rattle.std.specs.Prelude.{◌≡◌, ℕ, ◌≤◌, List, ◌∷◌, true}
use Rattle.arachne_policy.specs.declared.samples.Advice.{Advice}
use Rattle.arachne_policy.specs.declared.samples.Advice.TheVariants.{Add, Stay, Remove}
use Rattle.arachne_policy.specs.declared.samples.Sample.{Sample}
use Rattle.arachne_policy.specs.Advice.{advice}
use Rattle.arachne_policy.specs.Sample.{is_good}
use Rattle.arachne_policy.specs.State.{State, StandsFor, most_cores}
use Rattle.arachne_exec_c.specs.declared.policy.ArachneEstimator.{ArachneEstimator}
use Rattle.arachne_exec_c.specs.declared.policy.ArachneSample.{ArachneSample}

abbrev pub state_of : ArachneEstimator → State
state_of e = record { settings = record { up = e.up; hysteresis = e.hysteresis; max = e.max }; thresholds = e.thresholds }

abbrev pub sample_of : ArachneSample → Sample
sample_of s = record { cores = s.cores; runnable = s.runnable; scans = s.scans; busy = s.busy; elapsed = s.elapsed }

-- the code of an advice
abbrev pub number_of : Advice → ℕ
number_of Stay = 21
number_of Add = 22
number_of Remove = 23

-- the code if a sample can't be judged
abbrev pub refused : ℕ
refused = 1

-- the estimator may judge the sample
abbrev pub MayJudge : ArachneEstimator → ArachneSample → Type 0
MayJudge e s = (e.max ≤ most_cores) × (is_good e.max (sample_of s) ≡ true)

-- the result is the advice on this sample after the earlier ones, and the estimator then stands for all of them
abbrev pub HasJudged : List Sample → ArachneEstimator → ArachneSample → ℕ → ArachneEstimator → Type 0
HasJudged past before s answer after =
    (answer ≡ number_of (advice (state_of before).settings past (sample_of s))) × StandsFor (state_of after) (sample_of s ∷ past)
