-- The advice on a sample after the samples before it. A list of past samples has the newest first.
use Rattle.std.specs.Prelude.{◌≡◌, ◌≢◌, ℕ, ◌+◌, ◌-◌, ◌*◌, Bool, true, false, ◌&&◌, ◌==◌, nat_lt, if◌then◌else◌, List, [], ◌∷◌, ◌++◌, codes}
use Rattle.arachne_policy.specs.declared.samples.{Sample.Sample, Advice.Advice, Advice.TheVariants.{Add, Stay, Remove}}
use Rattle.arachne_policy.specs.Sample.{load_of, utilisation_of}

-- a load over `up` asks for a core, up to `max` cores; `up` and `hysteresis` are in thousandths
pub record Settings : Type 0 where
  pub up : ℕ
  pub hysteresis : ℕ
  pub max : ℕ

-- the advice on a sample, given the threshold of each number of cores
abbrev pub advice_by : Settings → (ℕ → ℕ) → Sample → Advice
advice_by settings threshold s =
    if nat_lt settings.up (load_of s) && nat_lt s.cores settings.max then Add
    else if nat_lt 1 s.cores && nat_lt (utilisation_of s + settings.hysteresis) (threshold s.cores) then Remove
    else Stay

abbrev pub is_add : Advice → Bool
is_add Add = true
is_add Stay = false
is_add Remove = false

-- the word that an advice is displayed as
abbrev pub advice_text : Advice → List ℕ
advice_text Add = codes "add"
advice_text Stay = codes "stay"
advice_text Remove = codes "remove"

-- the threshold of n cores after these samples: the utilisation of the last one of n - 1 cores whose advice was Add, or
-- if there is none, that of n - 1 busy cores
abbrev pub threshold : Settings → List Sample → ℕ → ℕ
threshold settings [] n = 1000 * (n - 1)
threshold settings (s ∷ past) n =
    if is_add (advice_by settings (threshold settings past) s) && (s.cores + 1 == n) then utilisation_of s else threshold settings past n

-- the advice on a sample after the past samples
abbrev pub advice : Settings → List Sample → Sample → Advice
advice settings past s = advice_by settings (threshold settings past) s

-- the advice on each of the samples, each after those before it and the past ones
abbrev pub advices_after : Settings → List Sample → List Sample → List Advice
advices_after settings past [] = []
advices_after settings past (s ∷ samples) = advice settings past s ∷ advices_after settings (s ∷ past) samples

-- the advice on each sample after those before it; the samples have the oldest first
abbrev pub advices : Settings → List Sample → List Advice
advices settings samples = advices_after settings [] samples

-- none of these samples, which followed `older`, has this number of cores and the advice Add
abbrev pub NoneAdded : Settings → List Sample → List Sample → ℕ → Type 0
NoneAdded settings samples older cores =
    (after before : List Sample) (s : Sample) → samples ≡ after ++ s ∷ before → s.cores ≡ cores
    → advice settings (before ++ older) s ≢ Add

-- the advice on the past sample `added` was Add, and no newer one with the same number of cores has had that advice
pub record RecordStands (settings : Settings) (past : List Sample) (added : Sample) : Type 0 where
  pub newer : List Sample
  pub older : List Sample
  pub among : past ≡ newer ++ added ∷ older
  pub was_added : advice settings older added ≡ Add
  pub none_newer : NoneAdded settings newer (added ∷ older) added.cores
