-- A record is valid until a newer one replaces it.
use Rattle.std.proofs.Common.{◌≡◌, ◌≢◌, ℕ, ◌+◌, ◌-◌, ◌*◌, ◌<◌, ◌≤◌, Bool, true, false, ◌&&◌, cond, eqb, List, [], ◌∷◌, ◌++◌, refl, ap, arith, sym, ◌∙◌, append-nil}
use Rattle.std.proofs.lemmas.Grind.{common_steps}
use Rattle.arachne_policy.specs.declared.samples.{Sample.Sample, Advice.Advice, Advice.TheVariants.{Add, Stay, Remove}}
use Rattle.arachne_policy.specs.Sample.{utilisation_of, is_good}
use Rattle.arachne_policy.specs.Advice.{Settings, is_add, advice, advice_by, threshold, NoneAdded, RecordStands}
use Rattle.arachne_policy.specs.State.{State, StandsFor, most_cores, threshold_at}

-- an advice other than Add is not an Add
is_add-other : (a : Advice) → a ≢ Add → is_add a ≡ false
is_add-other Add h = absurd (h refl)
is_add-other Stay h = refl
is_add-other Remove h = refl

-- a test that fails
cond-first : (a b : Bool) (x y : ℕ) → a ≡ true → b ≡ true → cond (a && b) x y ≡ x
cond-first a b x y p q = rw (p, q) refl

cond-skip : (a b : Bool) (x y : ℕ) → (b ≡ true → a ≡ false) → cond (a && b) x y ≡ y
cond-skip true true x y h = let e = h refl in cc
cond-skip true false x y h = refl
cond-skip false b x y h = refl

eqb-sound : (m n : ℕ) → eqb m n ≡ true → m ≡ n
eqb-sound m n h = grind (arith, common_steps)

eqb-same : (m : ℕ) → eqb m m ≡ true
eqb-same m = grind (arith, common_steps)

-- a newer sample that replaces no record leaves the threshold unchanged
threshold-skip : (settings : Settings) (newer older : List Sample) (s : Sample) (cores : ℕ) → NoneAdded settings (s ∷ newer) older cores
    → threshold settings (s ∷ newer ++ older) (cores + 1) ≡ threshold settings (newer ++ older) (cores + 1)
threshold-skip settings newer older s cores none =
    cond-skip (is_add (advice settings (newer ++ older) s)) _ _ _
    (λ e. is_add-other (advice settings (newer ++ older) s)
    (none [] newer s refl (let same = eqb-sound (s.cores + 1) (cores + 1) e in omega arith)))

none_added-rest : (settings : Settings) (newer older : List Sample) (s : Sample) (cores : ℕ) → NoneAdded settings (s ∷ newer) older cores
    → NoneAdded settings newer older cores
none_added-rest settings newer older s cores none after before t e = none (s ∷ after) before t (ap (λ rest. s ∷ rest) e)

-- samples that replace no record leave the threshold unchanged
threshold-none_added : (settings : Settings) (newer older : List Sample) (cores : ℕ) → NoneAdded settings newer older cores
    → threshold settings (newer ++ older) (cores + 1) ≡ threshold settings older (cores + 1)
threshold-none_added settings [] older cores none = refl
threshold-none_added settings (s ∷ newer) older cores none =
    threshold-skip settings newer older s cores none
    ∙ threshold-none_added settings newer older cores (none_added-rest settings newer older s cores none)

-- an Add is recorded
threshold-added : (settings : Settings) (older : List Sample) (added : Sample) → advice settings older added ≡ Add
    → threshold settings (added ∷ older) (added.cores + 1) ≡ utilisation_of added
threshold-added settings older added add =
    cond-first (is_add (advice settings older added)) _ _ _ (ap is_add add) (eqb-same (added.cores + 1))

-- without a record, the threshold is that of busy cores
pub threshold-no_record : (settings : Settings) (past : List Sample) (cores : ℕ) → NoneAdded settings past [] cores
    → threshold settings past (cores + 1) ≡ 1000 * cores
threshold-no_record settings past cores none =
    ap (λ samples. threshold settings samples (cores + 1)) (sym (append-nil past))
    ∙ threshold-none_added settings past [] cores none
    ∙ omega arith

-- while a record is valid, it is the threshold of one core more
pub threshold-record : (settings : Settings) (past : List Sample) (added : Sample) → RecordStands settings past added
    → threshold settings past (added.cores + 1) ≡ utilisation_of added
threshold-record settings past added record_stands =
    ap (λ samples. threshold settings samples (added.cores + 1)) record_stands.among
    ∙ threshold-none_added settings record_stands.newer (added ∷ record_stands.older) added.cores record_stands.none_newer
    ∙ threshold-added settings record_stands.older added record_stands.was_added

-- if the advice is Remove, the utilisation is below the threshold by more than the hysteresis
removed : (settings : Settings) (of_cores : ℕ → ℕ) (s : Sample) → advice_by settings of_cores s ≡ Remove
    → utilisation_of s + settings.hysteresis < of_cores s.cores
removed settings of_cores s h = grind (arith, common_steps, h)

cores-good : (max : ℕ) (s : Sample) → is_good max s ≡ true → s.cores ≤ max
cores-good max s h = grind (arith, common_steps, h)

-- while a record is valid, the advice on a sample of one core more is not Remove, unless the utilisation has fallen by
-- more than the hysteresis
pub keeps-added : (state : State) (past : List Sample) (added s : Sample) → state.settings.max ≤ most_cores → is_good state.settings.max s ≡ true
    → StandsFor state past → RecordStands state.settings past added → s.cores ≡ added.cores + 1
    → utilisation_of added - state.settings.hysteresis ≤ utilisation_of s
    → advice_by state.settings (threshold_at state) s ≢ Remove
keeps-added state past added s most good stands record_stands one_more close remove =
    let under : utilisation_of s + state.settings.hysteresis < threshold_at state s.cores = removed state.settings (threshold_at state) s remove in
    let few : s.cores ≤ state.settings.max = cores-good state.settings.max s good in
    let is_record : threshold_at state (added.cores + 1) ≡ utilisation_of added =
    stands (added.cores + 1) (omega arith) (omega arith) ∙ threshold-record state.settings past added record_stands in
    let same : threshold_at state s.cores ≡ threshold_at state (added.cores + 1) = ap (threshold_at state) one_more in
    omega arith
