-- The advice on a list of samples, for a loop that judges them one after another.
use Rattle.std.proofs.Common.{◌≡◌, ℕ, zero, suc, ◌<◌, List, [], ◌∷◌, ◌++◌, length, reverse, take, get_or, refl, ap, arith, sym, ◌∙◌, append_assoc}
use Rattle.std.proofs.lemmas.List.{reverse-append, append-nil}
use Rattle.arachne_policy.specs.declared.samples.{Sample.Sample, Advice.Advice, Advice.TheVariants.Add}
use Rattle.arachne_policy.specs.State.{State, after, StandsFor, HasJudged}
use Rattle.arachne_policy.specs.Advice.{Settings, advice, advices_after, advices}

-- the newest of the samples comes first in their reverse
pub reverse-push : (samples : List Sample) (s : Sample) → reverse (samples ++ s ∷ []) ≡ s ∷ reverse samples
reverse-push samples s = reverse-append samples (s ∷ [])

advices_after-push : (settings : Settings) (past samples : List Sample) (s : Sample)
    → advices_after settings past (samples ++ s ∷ []) ≡ advices_after settings past samples ++ advice settings (reverse samples ++ past) s ∷ []
advices_after-push settings past [] s = refl
advices_after-push settings past (t ∷ samples) s =
    ap (λ rest. advice settings past t ∷ rest)
    (advices_after-push settings (t ∷ past) samples s
    ∙ ap (λ earlier. advices_after settings (t ∷ past) samples ++ advice settings earlier s ∷ [])
    (sym (append_assoc (reverse samples) (t ∷ []) past) ∙ ap (λ r. r ++ past) (sym (reverse-append (t ∷ []) samples))))

-- one more sample is judged after those before it
pub advices-push : (settings : Settings) (samples : List Sample) (s : Sample)
    → advices settings (samples ++ s ∷ []) ≡ advices settings samples ++ advice settings (reverse samples) s ∷ []
advices-push settings samples s =
    advices_after-push settings [] samples s
    ∙ ap (λ past. advices settings samples ++ advice settings past s ∷ []) (append-nil (reverse samples))

pub length-advices_after : (settings : Settings) (past samples : List Sample) → length (advices_after settings past samples) ≡ length samples
length-advices_after settings past [] = refl
length-advices_after settings past (s ∷ samples) = ap suc (length-advices_after settings (s ∷ past) samples)

advices_after-get : (settings : Settings) (past samples : List Sample) (k : ℕ) (d : Sample) (a : Advice) → k < length samples
    → get_or (advices_after settings past samples) k a ≡ advice settings (reverse (take k samples) ++ past) (get_or samples k d)
advices_after-get settings past [] k d a h = absurd (omega arith)
advices_after-get settings past (s ∷ samples) zero d a h = refl
advices_after-get settings past (s ∷ samples) (suc k) d a h =
    advices_after-get settings (s ∷ past) samples k d a (omega arith)
    ∙ ap (λ earlier. advice settings earlier (get_or samples k d))
    (sym (append_assoc (reverse (take k samples)) (s ∷ []) past) ∙ ap (λ r. r ++ past) (sym (reverse-append (s ∷ []) (take k samples))))

-- the advice on a sample of the list is that after those before it
pub advices-get : (settings : Settings) (samples : List Sample) (k : ℕ) (d : Sample) (a : Advice) → k < length samples
    → get_or (advices settings samples) k a ≡ advice settings (reverse (take k samples)) (get_or samples k d)
advices-get settings samples k d a h =
    advices_after-get settings [] samples k d a h
    ∙ ap (λ past. advice settings past (get_or samples k d)) (append-nil (reverse (take k samples)))

settings-after : (state : State) (s : Sample) (a : Advice) → (after state s a).settings ≡ state.settings
settings-after state s Add = refl
settings-after state s _ = refl

-- one more sample is judged: the step of a loop that calls `estimate` for each sample
pub HasJudged-push : (settings : Settings) (samples : List Sample) (answers : List Advice) (old new : State) (s : Sample) (a : Advice)
    → HasJudged settings samples answers old → new ≡ after old s a
    → (a ≡ advice old.settings (reverse samples) s) × StandsFor new (s ∷ reverse samples)
    → HasJudged settings (samples ++ s ∷ []) (answers ++ a ∷ []) new
HasJudged-push settings samples answers old new s a judged is_after answer = record {
  keeps_settings = ap (λ state. state.settings) is_after ∙ settings-after old s a ∙ judged.keeps_settings;
  stands = rw (reverse-push samples s) answer.1;
  answered = rw (judged.answered, answer.0, judged.keeps_settings) (sym (advices-push settings samples s));
}
