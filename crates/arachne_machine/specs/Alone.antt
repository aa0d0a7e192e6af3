-- The way in which the threads of a program wait for each other if only one of them goes on at a time.
use Rattle.std.specs.Prelude.{◌≡◌, ℕ, ◌+◌, ◌*◌, List, [], ◌∷◌, ◌++◌, None}
use Rattle.arachne_program.specs.declared.program.Program.{Program}
use Rattle.arachne_machine.specs.{Outcome.Finished, Nested.{Nested, IsAlone, pending_in, whole}}
use Rattle.arachne_machine.specs.declared.alone.Turn.{Turn, TheVariants.{Goes, Forks, Ends}}

-- the program and the thread's name of an outcome
abbrev pub key : Finished → Program × List ℕ
key outcome = (outcome.program, outcome.name)

-- the keys of a thread's children of these numbers
abbrev pub childs_keys : Program → List ℕ → List ℕ → List (Program × List ℕ)
childs_keys program name [] = []
childs_keys program name (number ∷ numbers) = (program, name ++ number ∷ []) ∷ childs_keys program name numbers

-- The thread goes on. The first outcomes are those of all its children that are not joined.
pub record IsNewest (program : Program) (keys : List (Program × List ℕ)) (thread : Nested) : Type 0 where
  pub alone : IsAlone thread
  pub same_program : thread.running.program ≡ program
  pub running : pending_in thread ≡ None
  pub rest : List (Program × List ℕ)
  pub brought : keys ≡ childs_keys program thread.running.name thread.running.unjoined ++ rest

-- The thread has forked the child of this name, its newest one that is not joined. The first outcomes are those of its
-- other children that are not joined.
pub record IsParent (program : Program) (child : List ℕ) (keys : List (Program × List ℕ)) (thread : Nested) : Type 0 where
  pub alone : IsAlone thread
  pub same_program : thread.running.program ≡ program
  pub running : pending_in thread ≡ None
  pub number : ℕ
  pub others : List ℕ
  pub unjoined : thread.running.unjoined ≡ number ∷ others
  pub named : child ≡ thread.running.name ++ number ∷ []
  pub rest : List (Program × List ℕ)
  pub brought : keys ≡ childs_keys program thread.running.name others ++ rest

-- each of the threads is the parent of the one before it, the first is the parent of the thread of this name, and the
-- last is the root
abbrev pub Waits : Program → List ℕ → List Nested → List (Program × List ℕ) → Type 0
Waits program name [] keys = (name ≡ []) × (keys ≡ [])
Waits program name (thread ∷ threads) keys = (parent : IsParent program name keys thread) × Waits program thread.running.name threads parent.rest

-- The first thread goes on, and the others wait. If there is no thread, the root has brought its outcome.
abbrev pub Rests : Program → List Nested → List (Program × List ℕ) → Type 0
Rests program [] keys = keys ≡ (program, []) ∷ []
Rests program (thread ∷ threads) keys = (newest : IsNewest program keys thread) × Waits program thread.running.name threads newest.rest

-- an upper bound of the turns that are left
abbrev pub turns_left : Nested → ℕ
turns_left thread = 2 * thread.running.work + 1

-- The state after a turn of the first thread, given the result of the turn, that thread now, and the other threads.
abbrev pub RestsAfter : Program → Turn → Nested → List Nested → List (Program × List ℕ) → Type 0
RestsAfter program Goes thread others keys = Rests program (thread ∷ others) keys
RestsAfter program (Forks child) thread others keys = Rests program (child ∷ thread ∷ others) keys
RestsAfter program Ends thread others keys = Rests program others (((whole thread).program, (whole thread).name) ∷ keys)

-- the property holds if the thread has ended
abbrev pub OnEnd : Turn → Type 0 → Type 0
OnEnd Ends A = A
OnEnd _ A = Unit {0}

-- an upper bound of the turns that are left to the threads of a turn's result
abbrev pub turns_after : Turn → Nested → ℕ
turns_after Goes thread = turns_left thread
turns_after (Forks child) thread = turns_left thread + turns_left child
turns_after Ends thread = 0
