-- Sound threads: those that will end with the outcome of their name, and without fault in a checked program.
use Rattle.std.specs.Prelude.{◌≡◌, ◌<◌, ◌^◌, ℕ, ◌+◌, List, [], ◌∷◌, ◌++◌, length, map, reverse, Some}
use Rattle.arachne_program.specs.{Program.source_of, Effects.{Task, task_value, task_effects, tabulated}}
use Rattle.arachne_program.specs.{Meaning.task_of, Checked.IsChecked}
use Rattle.arachne_machine.specs.declared.line.Ran.TheVariants as ways
use Rattle.arachne_machine.specs.{declared.state.State.State, Outcome.named_holds, Account.{Account, untouched, after}}
use Rattle.arachne_machine.specs.Ending.{ending, account_at_end, environment_of, fork_awaited, KeepsForks}
use Rattle.arachne_machine.specs.{Faultless.IsWithoutFault, Strands.{Strand, Fits}, Steps.{IsNumbered, top, waiting_in}}

-- The thread, with what it has done so far, will have done its task in the end. The children that it has forked and
-- those that it will still fork are the task's children; and the same is true of sums, holds and lines.
pub record IsSound (t : Strand) (account : Account) : Type 0 where
  pub task : Task
  pub has_task : task_of (source_of t.program.now) t.own.name ≡ Some task
  pub holds : t.own.holds ≡ tabulated (source_of t.program.now).locks account.holds
  pub lines : map named_holds t.below ≡ account.lines
  pub forks : t.forks ≡ length account.children
  pub value : (ending t).value ≡ task_value (source_of t.program.now).arrays task
  -- it leaves the environment in which it began
  pub environment : (ending t).env ≡ environment_of task
  pub whole : account_at_end t account ≡ after t.own.name (task_effects (source_of t.program.now).arrays (source_of t.program.now).locks task) untouched
  pub numbered : IsNumbered t
  pub faultless : IsChecked (source_of t.program.now) → IsWithoutFault t
  pub keeps : KeepsForks t

-- the parent awaits this child, which runs in its place
pub record IsRunningFor (child parent : Strand) : Type 0 where
  pub number : ℕ
  pub awaits : fork_awaited parent.control ≡ number ∷ []
  pub named : child.own.name ≡ parent.own.name ++ number ∷ []
  pub in_place : child.own.label.ran ≡ ways.InPlace

abbrev pub RunFor : Strand → List Strand → Type 0
RunFor child [] = Unit {0}
RunFor child (parent ∷ parents) = IsRunningFor child parent × RunFor parent parents

-- All these threads are sound, and these are the sums of what they have added to each ledger.
abbrev pub AreSound : List Strand → (ℕ → ℕ) → Type 0
AreSound [] sums = (ledger : ℕ) → sums ledger ≡ 0
AreSound (t ∷ ts) sums =
    (account : Account) × (others : ℕ → ℕ) × IsSound t account × AreSound ts others × ((ledger : ℕ) → sums ledger ≡ account.sums ledger + others ledger)

-- A state is sound if all its threads are sound, each but the innermost awaits the one that runs in its place, and the
-- sums are those of its threads.
pub record IsSoundState (t : State) : Type 0 where
  pub sums_of : ℕ → ℕ
  pub sums : t.sums.items ≡ tabulated (source_of t.program.now).ledgers sums_of
  pub sound : AreSound (top t ∷ waiting_in t) sums_of
  pub run_for : RunFor (top t) (waiting_in t)
  pub fits : Fits (reverse t.parents.items) t.level.start t.level.place (length t.frames.items) (length t.lines)
  pub few : length t.lines < 2 ^ 63
