-- How the lines of advice grow with the samples that are judged.
use Rattle.std.proofs.Common.{◌≡◌, ℕ, suc, ◌+◌, ◌<◌, List, [], ◌∷◌, ◌++◌, length, take, drop, reverse, get_or, true, false, sym, ap, ◌∙◌, arith, append-nil}
use Rattle.std.{specs.List.flat_map, proofs.{Math.Seq.drop-cons, lemmas.Grind.flat_map-append}}
use Rattle.std.proofs.lemmas.List.{take_more, length-take-le, take-append-drop}
use Rattle.arachne_policy.specs.{declared.samples.{Sample.Sample, Advice.Advice}, Sample.is_good}
use Rattle.arachne_policy.specs.{Advice.{advice, advice_text}, State.{State, after, StandsFor, HasJudged}}
use Rattle.arachne_policy.proofs.InTurn.{HasJudged-push}
use Rattle.arachne_cli.specs.declared.judging.Settings.{Settings}
use Rattle.arachne_cli.specs.Judging.{bounds_of, advice_line, AreGood, IsFirstBadLine}

abbrev pub some_sample : Sample
some_sample = record { cores = 0; runnable = 0; scans = 0; busy = 0; elapsed = 0 }

-- the first i samples are good and judged, and their advice is written
pub record HasWritten (settings : Settings) (samples : List Sample) (i : ℕ) (state : State) (text : List ℕ) : Type 0 where
  pub answers : List Advice
  pub judged : HasJudged (bounds_of settings) (take i samples) answers state
  pub good : AreGood settings (take i samples)
  pub written : text ≡ flat_map advice_line answers

good-append : (settings : Settings) (a : List Sample) (s : Sample) → AreGood settings a → is_good settings.max s ≡ true → AreGood settings (a ++ s ∷ [])
good-append settings [] s h e = (e, tt)
good-append settings (b ∷ a) s h e = (h.0, good-append settings a s h.1 e)

-- one more sample is judged
pub written_more : (settings : Settings) (samples : List Sample) (i : ℕ) (old new : State) (text text' : List ℕ) (a : Advice) → i < length samples
    → HasWritten settings samples i old text
    → is_good settings.max (get_or samples i some_sample) ≡ true
    → new ≡ after old (get_or samples i some_sample) a
    → ((past : List Sample) → StandsFor old past → (a ≡ advice old.settings past (get_or samples i some_sample)) × StandsFor new (get_or samples i some_sample ∷ past))
    → text' ≡ text ++ (advice_text a ++ 10 ∷ [])
    → HasWritten settings samples (i + 1) new text'
written_more settings samples i old new text text' a below so_far good is_after history printed =
    let s = get_or samples i some_sample in
    let past = take i samples in
    record {
      answers = so_far.answers ++ a ∷ [];
      judged = rw (take_more samples i some_sample below)
          (HasJudged-push (bounds_of settings) past so_far.answers old new s a so_far.judged is_after (history (reverse past) so_far.judged.stands));
      good = rw (take_more samples i some_sample below) (good-append settings past s so_far.good good);
      written = printed ∙ ap (λ (u : List ℕ). u ++ advice_line a) so_far.written
          ∙ ap (λ (u : List ℕ). flat_map advice_line so_far.answers ++ u) (sym (append-nil (advice_line a)))
          ∙ sym (flat_map-append advice_line so_far.answers (a ∷ []));
    }

-- a sample that is not good, behind good ones, is the first bad one
pub first_bad : (settings : Settings) (samples : List Sample) (i : ℕ) → i < length samples → AreGood settings (take i samples)
    → is_good settings.max (get_or samples i some_sample) ≡ false → IsFirstBadLine settings samples (i + 1)
first_bad settings samples i below good bad = record {
  before = take i samples;
  bad = get_or samples i some_sample;
  behind = drop (i + 1) samples;
  among = sym (take-append-drop i samples) ∙ ap (λ (u : List Sample). take i samples ++ u) (next ∙ ap (λ (n : ℕ). get_or samples i some_sample ∷ drop n samples) one_more);
  good_before = good;
  is_bad = bad;
  counted = ap (λ (n : ℕ). n + 1) (sym (length-take-le i samples (omega arith)));
}
  where
    next : drop i samples ≡ get_or samples i some_sample ∷ drop (suc i) samples
    next = drop-cons samples i some_sample below

    one_more : suc i ≡ i + 1
    one_more = omega arith
