-- The meaning of a program on one thread.
use Rattle.std.specs.Prelude.{ℕ, List, [], ◌∷◌, Option, option_and_then, slice_get}
use Rattle.arachne_program.specs.{declared.meaning.Meaning.Meaning, Tree.Source, Value.value_of}
use Rattle.arachne_program.specs.Effects.{Task, Evaluate, Child, effects_of, task_effects, task_below, line_of, tabulated}

-- the meaning of a program: the value of its root, for each ledger its total, and the lines of its threads, the root's
-- first
abbrev pub meaning_of : Source → Meaning
meaning_of program =
    let effects = effects_of program.arrays program.locks program.root [] in
    record {
      value = value_of program.arrays program.root [];
      totals = tabulated program.ledgers effects.sums;
      threads = line_of program.locks [] effects ∷ effects.lines [] 0;
    }

-- the task of the thread of this name, if there is one
abbrev pub task_of : Source → List ℕ → Option Task
task_of program name = task_below program.arrays program.locks (Evaluate program.root []) name

-- the child that the thread of this name forks as its `number`-th, from 0, if it does
abbrev pub child_of : Source → List ℕ → ℕ → Option Child
child_of program name number =
    option_and_then (λ task. slice_get (task_effects program.arrays program.locks task).children number) (task_of program name)
