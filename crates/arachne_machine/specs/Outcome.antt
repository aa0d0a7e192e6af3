-- The outcome of a thread.
use Rattle.std.specs.Prelude.{◌≡◌, ℕ, List, ◌∷◌, map, Option, Some, option_map}
use Rattle.arachne_program.specs.declared.{program.Program.Program, meaning.{Line.Line, Meaning.Meaning}}
use Rattle.arachne_program.specs.{Tree.Source, Program.source_of}
use Rattle.arachne_program.specs.{Effects.{Task, task_value, task_effects, line_of, tabulated}, Meaning.task_of}
use Rattle.arachne_machine.specs.declared.{line.ThreadLine.ThreadLine, contents.Contents.Contents}

-- The meaning of a task as that of the thread of this name: its value, its sum for each ledger, and the thread's line
-- before the lines of the threads below it.
abbrev pub meaning_as : Source → List ℕ → Task → Meaning
meaning_as program name task =
    let effects = task_effects program.arrays program.locks task in
    record {
      value = task_value program.arrays task;
      totals = tabulated program.ledgers effects.sums;
      threads = line_of program.locks name effects ∷ effects.lines name 0;
    }

-- The outcome of the thread of this name, if the program has such a thread. That of the root is the program's meaning.
abbrev pub outcome_of : Source → List ℕ → Option Meaning
outcome_of program name = option_map (meaning_as program name) (task_of program name)

-- the view that callers have of an outcome; the thread's own line is the first
pub record Finished : Type 0 where
  pub program : Program
  pub name : List ℕ
  pub value : ℕ
  pub sums : List ℕ
  pub lines : List ThreadLine

-- the name and the holds of a line
abbrev pub named_holds : ThreadLine → Line
named_holds line = record { name = line.name; holds = line.holds }

-- the value, the sums, and the names and holds of the lines
abbrev pub meaning_in : Finished → Meaning
meaning_in outcome = record { value = outcome.value; totals = outcome.sums; threads = map named_holds outcome.lines }

-- it is the outcome of the thread of its name
abbrev pub IsOfItsName : Finished → Type 0
IsOfItsName outcome = outcome_of (source_of outcome.program) outcome.name ≡ Some (meaning_in outcome)

-- the view that callers have of an outcome of this program with these contents
abbrev pub finished : Program → Contents → Finished
finished program contents =
    record { program = program; name = contents.own.name; value = contents.value; sums = contents.sums.items; lines = contents.own ∷ contents.below }
