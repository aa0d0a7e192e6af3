-- All steps on the guard word so far, each with its seat, the newest first.
use Rattle.std.specs.Prelude.{◌≡◌, ℕ, ◌<◌, true, if◌then◌else◌, ◌==◌, List, [], ◌∷◌, ◌++◌, length, slice_index}
use mathlib.Core.Option.{some}
use lib.ListN.{get_elem?}
use Rattle.arachne_weights.specs.declared.token.Token.{Token}
use Rattle.arachne_sleep.specs.{declared.view.{Record.Record, Kind.Kind, Known.Known}, Words.guard_word}
use Rattle.arachne_sleep.specs.declared.view.Kind.TheVariants as kind

-- a step, and the number of the seat that made it
pub record Entry : Type 0 where
  pub seat : ℕ
  pub step : Record

abbrev pub entry : ℕ → Record → Entry
entry seat step = record { seat = seat; step = step }

-- the number in the word after these steps
abbrev pub word_after : List Entry → ℕ
word_after [] = 0
word_after (e ∷ es) = e.step.after

-- a try leaves the word at 1, and giving the guard back changes it from 1 to 0
abbrev pub IsStep : Kind → ℕ → ℕ → Type 0
IsStep kind.Take before after = after ≡ 1
IsStep kind.GiveBack before after = (before ≡ 1) × (after ≡ 0)

-- the step may come next: it found the number that is in the word
pub record IsNext (older : List Entry) (step : Record) : Type 0 where
  pub place : step.word ≡ guard_word
  pub found : step.before ≡ word_after older
  pub makes : IsStep step.kind step.before step.after

abbrev pub IsTrace : List Entry → Type 0
IsTrace [] = Unit {0}
IsTrace (e ∷ es) = IsTrace es × IsNext es e.step

-- the steps of seat h
abbrev pub records_of : ℕ → List Entry → List Record
records_of h [] = []
records_of h (e ∷ es) = if e.seat == h then e.step ∷ records_of h es else records_of h es

-- each step was made by one of the first n seats
abbrev pub AreOfSeats : ℕ → List Entry → Type 0
AreOfSeats n [] = Unit {0}
AreOfSeats n (e ∷ es) = (e.seat < n) × AreOfSeats n es

-- the trace leads to the number that is in the guard word, and the log of each seat in use has exactly its own steps
pub record Tells (trace : List Entry) (words : List ℕ) (views : List (Token Known)) : Type 0 where
  pub lawful : IsTrace trace
  pub word : slice_index words guard_word ≡ word_after trace
  pub seats : AreOfSeats (length views) trace
  pub records : (h : ℕ) (t : Token Known) → get_elem? views h ≡ some t → t.live ≡ true → t.known.log.records ≡ records_of h trace

-- seat h has made the step: it is in the trace, at a place at which it found the number that was then in the word
pub record IsStepOf (trace : List Entry) (h : ℕ) (step : Record) : Type 0 where
  pub newer : List Entry
  pub older : List Entry
  pub whole : trace ≡ newer ++ entry h step ∷ older
  pub next : IsNext older step
