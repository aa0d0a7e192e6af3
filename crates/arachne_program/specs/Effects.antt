-- The effects of evaluating an expression, beside its value: sums for the ledgers, holds of locks, and threads.
use Rattle.std.specs.Prelude.{ℕ, zero, suc, ◌+◌, ◌-◌, ◌/◌, ◌==◌, if◌then◌else◌, List, [], ◌∷◌, ◌++◌, length, Option, Some, option_and_then, slice_get}
use Rattle.arachne_program.specs.declared.{meaning.Line.Line, program.Class.Class, program.Class.TheVariants.Normal}
use Rattle.arachne_program.specs.declared.program.Reduction.{Reduction}
use Rattle.arachne_program.specs.Tree.{Tree, Number, Variable, Length, Item, Binary, Choose, Bind, Tally, Hold, Fork, Fold, Sweep}
use Rattle.arachne_program.specs.Parts.{by_halves}
use Rattle.arachne_program.specs.Value.{wrapped, apply, operation_of, unit_of, turns, Environment, with_newest, value_of}

-- The task of a thread: to evaluate an expression, or to reduce a range. The numbers of a reduction are its grain, the
-- first number of the range, and the length of the range.
pub data Task : Type 0 where
  Evaluate : Tree → Environment → Task
  Reduce : Reduction → ℕ → Tree → Environment → ℕ → ℕ → Task

-- a thread that is forked: its class and its task
pub record Child : Type 0 where
  pub class : Class
  pub task : Task

pub record Effects : Type 0 where
  -- for each ledger, the sum of all that is added to it, by the children too
  pub sums : ℕ → ℕ
  -- for each lock, the number of times that the thread itself holds it
  pub holds : ℕ → ℕ
  -- the children that the thread itself forks, in order
  pub children : List Child
  -- the lines of the threads below this one, given its name and the number of its next fork
  pub lines : List ℕ → ℕ → List Line

-- the first n values of f, from f of 0 on, each modulo 2 ^ 64
abbrev pub tabulated : ℕ → (ℕ → ℕ) → List ℕ
tabulated zero f = []
tabulated (suc n) f = tabulated n f ++ wrapped (f n) ∷ []

-- the line of a thread
abbrev pub line_of : ℕ → List ℕ → Effects → Line
line_of locks name effects = record { name = name; holds = tabulated locks effects.holds }

-- no effect at all
abbrev pub nothing : Effects
nothing = record { sums = λ ledger. 0; holds = λ lock. 0; children = []; lines = λ name next. [] }

-- The effects of two evaluations, one after the other. The forks of the second are numbered after those of the first.
infixl 10 ◌⨾◌
abbrev pub ◌⨾◌ : Effects → Effects → Effects
a ⨾ b = record {
  sums = λ ledger. a.sums ledger + b.sums ledger;
  holds = λ lock. a.holds lock + b.holds lock;
  children = a.children ++ b.children;
  lines = λ name next. a.lines name next ++ b.lines name (next + length a.children);
}

abbrev pub tallied : ℕ → ℕ → Effects
tallied ledger amount = record nothing { sums = λ other. if other == ledger then amount else 0 }

abbrev pub held : ℕ → Effects
held lock = record nothing { holds = λ other. if other == lock then 1 else 0 }

-- The effects of a fork: a child with these effects is forked, `during` has its own while the child runs, and the child
-- is joined. The fork comes before those of `during`. The lines of `during` stand before the child's line, and that
-- stands before those of the threads below the child.
abbrev pub forked : ℕ → Child → Effects → Effects → Effects
forked locks child effects during = record {
  sums = λ ledger. effects.sums ledger + during.sums ledger;
  holds = during.holds;
  children = child ∷ during.children;
  lines = λ name next.
      during.lines name (next + 1)
      ++ line_of locks (name ++ next ∷ []) effects ∷ []
      ++ effects.lines (name ++ next ∷ []) 0;
}

-- The child that is forked when a sweep is split. It is a normal thread.
abbrev pub half : Reduction → ℕ → Tree → Environment → ℕ → ℕ → Child
half reduction grain body env first n = record { class = Normal; task = Reduce reduction grain body env first n }

-- the effects of this many iterations, one after the other
abbrev pub turns_effects : (ℕ → Effects) → ℕ → Effects
turns_effects turn zero = nothing
turns_effects turn (suc j) = turns_effects turn j ⨾ turn j

-- The effects of a range of n numbers from `first` on. If it is longer than the grain, its left half is forked, and its
-- right half is done while that runs. A fuel of n is enough.
abbrev pub halves : ℕ → (ℕ → ℕ → Child) → (ℕ → Effects) → ℕ → ℕ → ℕ → ℕ → Effects
halves locks child turn grain fuel first n =
    by_halves (λ from k. turns_effects (λ j. turn (from + j)) k) (λ from k left right. forked locks (child from (k / 2)) left right) grain fuel first n

abbrev pub effects_of : List (List ℕ) → ℕ → Tree → Environment → Effects
effects_of arrays locks (Number n) env = nothing
effects_of arrays locks (Variable k) env = nothing
effects_of arrays locks (Length a) env = nothing
effects_of arrays locks (Item a index) env = effects_of arrays locks index env
effects_of arrays locks (Binary operation a b) env = effects_of arrays locks a env ⨾ effects_of arrays locks b env
effects_of arrays locks (Choose condition first second) env =
    effects_of arrays locks condition env
    ⨾ (if value_of arrays condition env == 0 then effects_of arrays locks second env else effects_of arrays locks first env)
effects_of arrays locks (Bind bound body) env =
    effects_of arrays locks bound env ⨾ effects_of arrays locks body (with_newest env (value_of arrays bound env))
effects_of arrays locks (Tally ledger amount body) env =
    effects_of arrays locks amount env ⨾ tallied ledger (value_of arrays amount env) ⨾ effects_of arrays locks body env
effects_of arrays locks (Hold lock body) env = held lock ⨾ effects_of arrays locks body env
effects_of arrays locks (Fork class child during after) env =
    forked locks (record { class = class; task = Evaluate child env }) (effects_of arrays locks child env) (effects_of arrays locks during env)
    ⨾ effects_of arrays locks after (with_newest (with_newest env (value_of arrays child env)) (value_of arrays during env))
effects_of arrays locks (Fold from to first body) env =
    effects_of arrays locks from env ⨾ effects_of arrays locks to env ⨾ effects_of arrays locks first env
    ⨾ turns_effects
    (λ j. effects_of arrays locks body (with_newest (with_newest env (value_of arrays from env + j))
    (turns (λ i so_far. value_of arrays body (with_newest (with_newest env (value_of arrays from env + i)) so_far)) j (value_of arrays first env))))
    (value_of arrays to env - value_of arrays from env)
effects_of arrays locks (Sweep reduction grain from to body) env =
    effects_of arrays locks from env ⨾ effects_of arrays locks to env
    ⨾ halves locks (half reduction grain body env) (λ i. effects_of arrays locks body (with_newest env i)) grain
    (value_of arrays to env - value_of arrays from env)
    (value_of arrays from env)
    (value_of arrays to env - value_of arrays from env)

-- the value of a task; its effects follow
abbrev pub task_value : List (List ℕ) → Task → ℕ
task_value arrays (Evaluate tree env) = value_of arrays tree env
task_value arrays (Reduce reduction grain body env first n) =
    turns (λ j so_far. apply (operation_of reduction) so_far (value_of arrays body (with_newest env (first + j)))) n (unit_of reduction)

abbrev pub task_effects : List (List ℕ) → ℕ → Task → Effects
task_effects arrays locks (Evaluate tree env) = effects_of arrays locks tree env
task_effects arrays locks (Reduce reduction grain body env first n) =
    halves locks (half reduction grain body env) (λ i. effects_of arrays locks body (with_newest env i)) grain n first n

-- the task of the thread to which these forks lead from a task, if there is one
abbrev pub task_below : List (List ℕ) → ℕ → Task → List ℕ → Option Task
task_below arrays locks task [] = Some task
task_below arrays locks task (k ∷ forks) =
    option_and_then (λ child. task_below arrays locks child.task forks) (slice_get (task_effects arrays locks task).children k)
