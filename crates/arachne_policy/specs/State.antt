-- The view that callers have of an estimator.
use Rattle.std.specs.Prelude.{◌≡◌, ℕ, ◌-◌, ◌<◌, ◌≤◌, List, reverse, slice_index, slice_set}
use Rattle.arachne_policy.specs.declared.samples.{Sample.Sample, Advice.Advice, Advice.TheVariants.{Add, Stay, Remove}}
use Rattle.arachne_policy.specs.{Sample.utilisation_of, Advice.{Settings, threshold, advices}}

-- the maximum number of cores that an estimator may advise
abbrev pub most_cores : ℕ
most_cores = 64

-- the settings, and the threshold of each number of cores from 1 on
pub record State : Type 0 where
  pub settings : Settings
  pub thresholds : List ℕ

-- the threshold of n cores
abbrev pub threshold_at : State → ℕ → ℕ
threshold_at state n = slice_index state.thresholds (n - 1)

-- the state after this advice on a sample: an Add makes the sample's utilisation the threshold of one core more
abbrev pub after : State → Sample → Advice → State
after state s Add = record state { thresholds = slice_set state.thresholds s.cores (utilisation_of s) }
after state s Stay = state
after state s Remove = state

-- the thresholds are those of these past samples, of which the newest stands first
abbrev pub StandsFor : State → List Sample → Type 0
StandsFor state past = (n : ℕ) → 0 < n → n ≤ most_cores → threshold_at state n ≡ threshold state.settings past n

-- an estimator with these settings has judged these samples, the oldest first, with these answers, and is now in this
-- state
pub record HasJudged (settings : Settings) (samples : List Sample) (answers : List Advice) (state : State) : Type 0 where
  pub keeps_settings : state.settings ≡ settings
  pub stands : StandsFor state (reverse samples)
  pub answered : answers ≡ advices settings samples
