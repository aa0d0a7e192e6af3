-- Expressions that fork, hold and tally nothing.
use Rattle.std.specs.Prelude.{◌≡◌, ℕ, ◌+◌, []}
use Rattle.arachne_program.specs.{Tree.{Tree, Number, Variable, Source}, Value.{Environment, value_of}}
use Rattle.arachne_program.specs.Effects.{nothing, effects_of}
use Rattle.arachne_machine.specs.{Work.work_of, Trace.{with_steps, trace_of}}

-- a number or a variable
abbrev pub IsLeaf : Tree → Type 0
IsLeaf (Number n) = Unit {0}
IsLeaf (Variable k) = Unit {0}
IsLeaf _ = ⊥

-- With these variables the expression has no effects, and its trace consists only of its steps.
pub record IsPure (source : Source) (tree : Tree) (env : Environment) : Type 0 where
  pub effects : effects_of source.arrays source.locks tree env ≡ nothing
  pub trace : trace_of source.arrays tree env ≡ with_steps (work_of source.arrays tree env) []

-- The expression is pure and has this value. Beside its first step `had` steps were left before it, and `left` are left
-- after it.
pub record IsWorth (source : Source) (tree : Tree) (env : Environment) (value had left : ℕ) : Type 0 where
  pub pure : IsPure source tree env
  pub value_is : value ≡ value_of source.arrays tree env
  pub steps : left + work_of source.arrays tree env ≡ had + 1
