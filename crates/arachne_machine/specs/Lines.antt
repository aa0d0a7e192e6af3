-- The lines of threads in the form in which they are kept until a run is over.
use Rattle.std.specs.Prelude.{◌≡◌, ◌≤◌, ◌<◌, ℕ, ◌+◌, ◌*◌, ◌/◌, ◌%◌, ◌^◌, ◌==◌, if◌then◌else◌, List, [], ◌∷◌, ◌++◌, drop, get_or, length, set, take}
use Rattle.arachne_program.specs.Effects.{tabulated}
use Rattle.arachne_machine.specs.declared.{line.{Ran.Ran, ThreadLine.ThreadLine}, line_list.Mark.Mark}
use Rattle.arachne_machine.specs.declared.line.Ran.TheVariants as ways

-- a list of lines of threads of a program with this number of locks; `quarter` is the two highest bits of their tags
pub record Listed : Type 0 where
  pub locks : ℕ
  pub quarter : ℕ
  pub lines : List ThreadLine

-- the kind of thread slot that has this number
abbrev pub ran_of : ℕ → Ran
ran_of code = if code == 0 then ways.Slot else if code == 1 then ways.Spill else ways.InPlace

-- the line of this thread, whose tag has these two highest bits, with these holds
abbrev pub line_with : ℕ → Mark → List ℕ → ThreadLine
line_with quarter mark holds = record { name = mark.name; tag = quarter * 2 ^ 62 + mark.label / 4; holds = holds; ran = ran_of (mark.label % 4) }

-- the lines of these threads: `holds` has as many numbers for each of them in turn as there are locks
abbrev pub with_holds : ℕ → ℕ → List Mark → List ℕ → List ThreadLine
with_holds quarter locks [] holds = []
with_holds quarter locks (mark ∷ marks) holds = line_with quarter mark (take locks holds) ∷ with_holds quarter locks marks (drop locks holds)

-- there are as many numbers for each thread as there are locks
abbrev pub AreHoldsOf : ℕ → List Mark → List ℕ → Type 0
AreHoldsOf locks marks holds = length holds ≡ length marks * locks

-- the numbers fit the threads, and a quarter is two bits
pub record AreKept (quarter locks : ℕ) (marks : List Mark) (holds : List ℕ) : Type 0 where
  pub fit : AreHoldsOf locks marks holds
  pub four : quarter < 4

-- the lines in these lists
abbrev pub lines_in : List Listed → List ThreadLine
lines_in [] = []
lines_in (list ∷ lists) = list.lines ++ lines_in lists

-- the lines in these lists, from this place of the first one on
abbrev pub lines_from : ℕ → List Listed → List ThreadLine
lines_from place [] = []
lines_from place (list ∷ lists) = drop place list.lines ++ lines_in lists

-- these lists have `count` lines, and together with those of the last list they are fewer than 2 ^ 63
pub record IsCounted (earlier : List Listed) (count last : ℕ) : Type 0 where
  pub counted : count ≡ length (lines_in earlier)
  pub few : count + last < 2 ^ 63

-- these lines were appended, and there is at least one of them
pub record Gains (old lines new : List ThreadLine) : Type 0 where
  pub lines_are : new ≡ old ++ lines
  pub more : length old + 1 ≤ length new
  pub few : length new < 2 ^ 63

-- the thread of this line has held this lock once more
pub record HoldsOnceMore (old new : ThreadLine) (lock : ℕ) : Type 0 where
  pub name : new.name ≡ old.name
  pub tag : new.tag ≡ old.tag
  pub ran : new.ran ≡ old.ran
  pub holds : (n : ℕ) (own : ℕ → ℕ) → old.holds ≡ tabulated n own → new.holds ≡ tabulated n (λ other. own other + (if other == lock then 1 else 0))

-- the thread whose line is at this place has held this lock once more
pub record CountsHoldAt (old new : List ThreadLine) (place lock : ℕ) : Type 0 where
  pub line : ThreadLine
  pub lines : new ≡ set old place line
  pub counted : (other : ThreadLine) → HoldsOnceMore (get_or old place other) line lock
