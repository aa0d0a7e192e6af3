-- The output for samples, and the line of the first bad one.
use Rattle.std.specs.{Prelude.{ℕ, ◌+◌, ◌≡◌, true, false, List, [], ◌∷◌, ◌++◌, length}, List.{AllByRecursion, flat_map}}
use Rattle.arachne_policy.specs.{declared.samples.{Sample.Sample, Advice.Advice}, Sample.is_good}
use Rattle.arachne_policy.specs.Advice.{Settings as Bounds, advice_text, advices}
use Rattle.arachne_cli.specs.declared.{judging.Settings.Settings, fault.Fault.Fault}
use Rattle.arachne_cli.specs.declared.fault.Fault.TheVariants.{BadSample, Memory}

-- the settings in the form that the definitions of the advice use
abbrev pub bounds_of : Settings → Bounds
bounds_of settings = record { up = settings.up; hysteresis = settings.hysteresis; max = settings.max }

-- an advice on a line of its own
abbrev pub advice_line : Advice → List ℕ
advice_line advice = advice_text advice ++ 10 ∷ []

-- the advice on each sample after those before it, a line each
abbrev pub advice_lines : Settings → List Sample → List ℕ
advice_lines settings samples = flat_map advice_line (advices (bounds_of settings) samples)

-- each of the samples can be judged
abbrev pub AreGood : Settings → List Sample → Type 0
AreGood settings samples = AllByRecursion (λ s. is_good settings.max s ≡ true) samples

-- The first sample that cannot be judged is on this line. The first line is 1.
pub record IsFirstBadLine (settings : Settings) (samples : List Sample) (line : ℕ) : Type 0 where
  pub before : List Sample
  pub bad : Sample
  pub behind : List Sample
  pub among : samples ≡ before ++ bad ∷ behind
  pub good_before : AreGood settings before
  pub is_bad : is_good settings.max bad ≡ false
  pub counted : line ≡ length before + 1

-- the reason why samples are not judged: a bad one, or refused memory
abbrev pub IsUnjudged : Settings → List Sample → Fault → Type 0
IsUnjudged settings samples (BadSample line) = IsFirstBadLine settings samples line
IsUnjudged settings samples fault = fault ≡ Memory
