-- The changes that the evaluation of an expression makes to the counts of its thread, and to the data of all threads.
use Rattle.std.specs.Prelude.{ℕ, ◌≡◌, ◌+◌, ◌*◌, ◌^◌, ◌<◌, ◌≤◌, List, [], ◌∷◌, ◌++◌, length, replicate}
use Rattle.arachne_lang.specs.declared.evaluator.{Own.Own, Shared.Shared}
use Rattle.arachne_program.specs.{declared.{meaning.Line.Line, program.Reduction.Reduction}, Tree.{Tree, Source}}
use Rattle.arachne_program.specs.Nesting.{nesting}
use Rattle.arachne_program.specs.Value.{Environment, value_of, turns, apply, operation_of, unit_of, with_newest}
use Rattle.arachne_program.specs.Effects.{Effects, half, effects_of, turns_effects, halves, tabulated, line_of}

-- Each number of a list has grown, modulo 2 ^ 64, by the amount for its index.
abbrev pub Gains : (ℕ → ℕ) → List ℕ → List ℕ → Type 0
Gains added old new = (count : ℕ) (before : ℕ → ℕ) → old ≡ tabulated count before → new ≡ tabulated count (λ k. before k + added k)

-- The counts of a thread of this name that has done nothing yet.
pub record IsFresh (locks : ℕ) (name : List ℕ) (own : Own) : Type 0 where
  pub named : own.name ≡ name
  pub forks : own.forks ≡ 0
  pub holds : own.holds.items ≡ replicate locks 0

-- These effects were added to the thread's own counts, to the sums of the ledgers, and to the lines of threads.
pub record HasDone (effects : Effects) (own : Own) (sums : List ℕ) (lines : List Line) (own' : Own) (sums' : List ℕ) (lines' : List Line) : Type 0 where
  pub same_name : own'.name ≡ own.name
  pub forks : own'.forks ≡ own.forks + length effects.children
  pub holds : Gains effects.holds own.holds.items own'.holds.items
  pub gained : Gains effects.sums sums sums'
  pub come : lines' ≡ lines ++ effects.lines own.name own.forks

-- A thread of this name, with these effects, has run and ended.
pub record HasEnded (locks : ℕ) (effects : Effects) (name : List ℕ) (sums : List ℕ) (lines : List Line) (sums' : List ℕ) (lines' : List Line) : Type 0 where
  pub gained : Gains effects.sums sums sums'
  pub come : lines' ≡ lines ++ line_of locks name effects ∷ [] ++ effects.lines name 0

-- An expression was evaluated in an environment by the current thread, and the shared environment is unchanged.
pub record IsEvaluated (program : Source) (tree : Tree) (environment : Environment) (own : Own) (shared : Shared) (answer : ℕ) (own' : Own) (shared' : Shared) : Type 0 where
  pub value : answer ≡ value_of program.arrays tree environment
  pub restored : shared'.environment.items ≡ shared.environment.items
  pub effects : HasDone (effects_of program.arrays program.locks tree environment)
      own shared.sums.items shared.lines.items own' shared'.sums.items shared'.lines.items

-- An expression was evaluated by a new thread of this name, in the shared environment.
pub record IsRun (program : Source) (tree : Tree) (name : List ℕ) (shared : Shared) (answer : ℕ) (shared' : Shared) : Type 0 where
  pub value : answer ≡ value_of program.arrays tree shared.environment.items
  pub restored : shared'.environment.items ≡ shared.environment.items
  pub ended : HasEnded program.locks (effects_of program.arrays program.locks tree shared.environment.items)
      name shared.sums.items shared.lines.items shared'.sums.items shared'.lines.items

-- the value of a fold after n iterations from its first value; the effects of these follow
abbrev pub folded : Source → Tree → Environment → ℕ → ℕ → ℕ → ℕ
folded program body environment from first n =
    turns (λ j so_far. value_of program.arrays body (with_newest (with_newest environment (from + j)) so_far)) n first

abbrev pub folded_effects : Source → Tree → Environment → ℕ → ℕ → ℕ → Effects
folded_effects program body environment from first n =
    turns_effects (λ j. effects_of program.arrays program.locks body
    (with_newest (with_newest environment (from + j)) (folded program body environment from first j))) n

-- The current thread has made n iterations of a fold.
pub record IsFolded (program : Source) (body : Tree) (environment : Environment) (from first n : ℕ) (own : Own) (shared : Shared) (answer : ℕ) (own' : Own) (shared' : Shared) : Type 0 where
  pub value : answer ≡ folded program body environment from first n
  pub effects : HasDone (folded_effects program body environment from first n)
      own shared.sums.items shared.lines.items own' shared'.sums.items shared'.lines.items

-- the reduction of the n numbers of a range from `first` on; the effects of these iterations follow
abbrev pub reduced : Source → Reduction → Tree → Environment → ℕ → ℕ → ℕ
reduced program reduction body environment first n =
    turns (λ j so_far. apply (operation_of reduction) so_far (value_of program.arrays body (with_newest environment (first + j)))) n (unit_of reduction)

abbrev pub reduced_effects : Source → Tree → Environment → ℕ → ℕ → Effects
reduced_effects program body environment first n =
    turns_effects (λ j. effects_of program.arrays program.locks body (with_newest environment (first + j))) n

-- The current thread has reduced n numbers itself.
pub record IsReduced (program : Source) (reduction : Reduction) (body : Tree) (environment : Environment) (first n : ℕ) (own : Own) (shared : Shared) (answer : ℕ) (own' : Own) (shared' : Shared) : Type 0 where
  pub value : answer ≡ reduced program reduction body environment first n
  pub effects : HasDone (reduced_effects program body environment first n)
      own shared.sums.items shared.lines.items own' shared'.sums.items shared'.lines.items

-- the effects of a range that is halved down to the grain
abbrev pub halved_effects : Source → Reduction → ℕ → Tree → Environment → ℕ → ℕ → ℕ → Effects
halved_effects program reduction grain body environment fuel first n =
    halves program.locks (half reduction grain body environment) (λ i. effects_of program.arrays program.locks body (with_newest environment i)) grain fuel first n

-- The current thread has reduced n numbers by halves.
pub record IsHalved (program : Source) (reduction : Reduction) (grain : ℕ) (body : Tree) (environment : Environment) (first n : ℕ) (own : Own) (shared : Shared) (answer : ℕ) (own' : Own) (shared' : Shared) : Type 0 where
  pub value : answer ≡ reduced program reduction body environment first n
  pub restored : shared'.environment.items ≡ shared.environment.items
  pub effects : (fuel : ℕ) → n ≤ fuel → HasDone (halved_effects program reduction grain body environment fuel first n)
      own shared.sums.items shared.lines.items own' shared'.sums.items shared'.lines.items

-- A new thread of this name has reduced n numbers, in the shared environment.
pub record IsHalfRun (program : Source) (reduction : Reduction) (grain : ℕ) (body : Tree) (first n : ℕ) (name : List ℕ) (shared : Shared) (answer : ℕ) (shared' : Shared) : Type 0 where
  pub value : answer ≡ reduced program reduction body shared.environment.items first n
  pub restored : shared'.environment.items ≡ shared.environment.items
  pub ended : (fuel : ℕ) → n ≤ fuel → HasEnded program.locks (halved_effects program reduction grain body shared.environment.items fuel first n)
      name shared.sums.items shared.lines.items shared'.sums.items shared'.lines.items

-- The number of the next fork stays in range. Each thread that was forked has a line, or its line must still be
-- pushed. For each level of an expression at most 65 lines must still be pushed, since a range of less than 2 ^ 64
-- numbers is halved at most 64 times.
abbrev pub MayFork : Tree → ℕ → List Line → Type 0
MayFork tree forks lines = (nesting tree ≤ 64) × (forks + 65 * nesting tree ≤ length lines + 65 * 64)

-- Like `MayFork`, for a range of n numbers, which is halved at most `halvings` times.
pub record MaySplit (body : Tree) (n forks : ℕ) (lines : List Line) : Type 0 where
  pub levels : nesting body < 64
  pub halvings : ℕ
  pub enough : n ≤ 2 ^ halvings
  pub room : forks + halvings + 65 * nesting body ≤ length lines + 65 * 64

-- At least as many lines were pushed as threads were forked.
abbrev pub HasLines : Own → Shared → Own → Shared → Type 0
HasLines own shared own' shared' = own'.forks + length shared.lines.items ≤ own.forks + length shared'.lines.items
