-- A thread as callers see it, and its invariant between two calls.
use Rattle.std.specs.Prelude.{◌≡◌, ◌≢◌, ◌≤◌, ℕ, ◌+◌, Bool, true, false, List, [], ◌∷◌, ◌++◌, map, reverse, All, Option, None, Some, Result, Ok, Err}
use Rattle.std.specs.Global.{Box}
use Rattle.arachne_machine.specs.declared.line.Ran.TheVariants as ways
use Rattle.arachne_machine.specs.Nested.{AwaitsElsewhere, IsRest, Nested, Placed, IsNested, work_in}
use Rattle.arachne_machine.specs.{Runs.{LooksSame, RunsOn, StandsBefore, TakesIn, after_fork}, Sound.IsSoundState}
use Rattle.arachne_machine.specs.Steps.{AfterSteps, GivesChild, IsSame, LeavesOthers, Turns, pending_of, suspended, task_begun, top, waiting_in}
use Rattle.arachne_machine.specs.{Suspended.awaited, declared.{pause.Pending.Pending, placed.Unplaced.Unplaced}}
use Rattle.arachne_machine.specs.declared.{placed.Unplaced.TheVariants.{Foreign, Memory}, state.State.State}
use Rattle.arachne_program.specs.{declared.program.Class.Class, Effects.tabulated}
use Rattle.arachne_machine.specs.declared.pause.Pending.TheVariants as pause

-- a child that was handed back
abbrev pub seen_child : Box State → Placed
seen_child child = record { running = suspended (top child.value); parents = map suspended (waiting_in child.value) }

-- the view of a state with the children that were handed back to it, the newest of which is the last
abbrev pub nested : State → List (Box State) → Nested
nested t placed = record {
  running = suspended (top t);
  parents = map suspended (waiting_in t);
  placed = map seen_child (reverse placed);
  sums = t.sums.items;
}

-- a sound child in whose place no other thread runs
pub record IsSoundChild (t : State) : Type 0 where
  pub sound : IsSoundState t
  pub alone : t.parents.items ≡ []

pub record IsKept (t : State) (placed : List (Box State)) : Type 0 where
  pub sound : IsSoundState t
  pub children : All (λ child. IsSoundState child.value) placed
  pub nested_is : IsNested (nested t placed)
  -- if the innermost thread has ended, no other waits for it
  pub ended : pending_of t.control ≡ Some pause.Ended → t.parents.items ≡ []

-- the view of children that were handed back, the newest first
abbrev pub seen_children : List (Box State) → List Placed
seen_children placed = map seen_child (reverse placed)

-- The threads have made `had - left` steps, and none has paused. If no child was handed back, the state has done so by
-- itself.
pub record Went (Q : Type 0) (had left : ℕ) (old : State) (ps : List (Box State)) (new : State) (qs : List (Box State)) : Type 0 where
  pub made : ℕ
  pub fewer : left ≤ had
  pub counted : left + made ≡ had
  pub kept : IsKept new qs
  pub program : new.program ≡ old.program
  pub own : new.own ≡ old.own
  pub work : work_in (nested new qs) + made ≡ work_in (nested old ps)
  pub running : pending_of new.control ≡ None
  pub rest : IsRest (seen_children ps) (seen_children qs)
  pub by_itself : ps ≡ [] → (qs ≡ []) × RunsOn Q had left 0 old new

-- Like `Went`, and then the innermost thread has paused in this way, in one more step.
pub record WentToPause (Q : Type 0) (had left : ℕ) (old : State) (ps : List (Box State)) (next : Pending) (new : State) (qs : List (Box State)) : Type 0 where
  pub last : State
  pub went : Went Q had left old ps last qs
  pub leaves : LeavesOthers last new
  pub stops : AfterSteps 1 (top last) (Some next) (top new)
  pub ended : next ≡ pause.Ended → new.parents.items ≡ []
  pub elsewhere : next ≡ pause.Joins → AwaitsElsewhere (suspended (top new)) (seen_children qs)

-- Like `Went`, and then the innermost thread has forked this child, in one more step.
pub record WentToFork (Q : Type 0) (had left : ℕ) (old : State) (ps : List (Box State)) (class : Class) (child new : State) (qs : List (Box State)) : Type 0 where
  pub last : State
  pub went : Went Q had left old ps last qs
  pub leaves : LeavesOthers last new
  pub gives : GivesChild 1 (top last) (top new) (top child) (record { class = class; task = task_begun child.control child.environment.items })
  pub sound : IsSoundState child
  pub alone : child.parents.items ≡ []
  pub sums : child.sums.items ≡ tabulated last.program.now.ledgers (λ ledger. 0)

-- The result of an advance, given the child that was forked and the pending pause.
abbrev pub AdvancesWith : Type 0 → ℕ → ℕ → State → List (Box State) → Option (Class × Box State) → Option Pending → State → List (Box State) → Type 0
AdvancesWith Q had left old ps None None new qs = Went Q had left old ps new qs × (left ≡ 0)
AdvancesWith Q had left old ps None (Some next) new qs = (beside : ℕ) × (had ≡ beside + 1) × WentToPause Q beside left old ps next new qs
AdvancesWith Q had left old ps (Some forked) pending new qs = (beside : ℕ) × (had ≡ beside + 1) × WentToFork Q beside left old ps forked.0 forked.1.value new qs

-- If true: the innermost thread awaited the newest of these children, which goes on in its place. If false: it awaits
-- no child, or another.
abbrev pub TakesUp : Bool → State → List (Box State) → State → List (Box State) → Type 0
TakesUp true old ps new qs =
    (child : Box State) × (ps ≡ qs ++ child ∷ []) × (pending_of old.control ≡ Some pause.Joins) × (awaited (suspended (top old)) ≡ Some child.value.own.name) × TakesIn old child.value new
TakesUp false old ps new qs =
    (new ≡ old) × (qs ≡ ps)
    × (pending_of old.control ≡ Some pause.Joins → (rest : List (Box State)) (child : Box State) → ps ≡ rest ++ child ∷ [] → awaited (suspended (top old)) ≢ Some child.value.own.name)

-- Memory was refused. The thread stands before the step in which it began to await the newest of these children.
pub record StandsBack (old : State) (ps : List (Box State)) (new : State) (qs : List (Box State)) : Type 0 where
  pub joins : pending_of old.control ≡ Some pause.Joins
  pub rest : List (Box State)
  pub child : Box State
  pub back : Box State
  pub were : ps ≡ rest ++ child ∷ []
  pub are : qs ≡ rest ++ back ∷ []
  pub looks : LooksSame child.value back.value
  pub mid : State
  pub same : IsSame old mid
  pub stands : StandsBefore mid.control mid new

-- A child was taken back. At its fork it waits, and begins before the children that were handed back to it. If it is
-- awaited, it goes on at once, and those are the newest.
pub record IsTakenBack (old : State) (ps : List (Box State)) (child : State) (cps : List (Box State)) (new : State) (qs : List (Box State)) : Type 0 where
  pub of_child : awaited (suspended (top old)) ≡ Some child.own.name
  pub at_fork : pending_of old.control ≡ Some pause.Forks →
      (box : Box State) × (box.value ≡ record child { own = record child.own { label = record child.own.label { ran = ways.InPlace } } })
      × (qs ≡ ps ++ cps ++ box ∷ []) × Turns old new (after_fork old.control)
  pub at_join : pending_of old.control ≡ Some pause.Joins → (qs ≡ ps ++ cps) × TakesIn old child new

-- The child was refused and is returned. Nothing has changed but capacities.
pub record IsReturned (old : State) (ps : List (Box State)) (child : State) (cps : List (Box State)) (new : State) (qs rs : List (Box State)) (back : State) : Type 0 where
  pub same : IsSame old new
  pub placed : qs ≡ ps
  pub others : rs ≡ cps
  pub looks : LooksSame child back

abbrev pub Places : Result (Unit {0}) Unplaced → State → List (Box State) → State → List (Box State) → State → List (Box State) → List (Box State) → Type 0
Places (Ok done) old ps child cps new qs rs = IsTakenBack old ps child cps new qs
Places (Err (Foreign back)) old ps child cps new qs rs =
    (awaited (suspended (top old)) ≢ Some child.own.name) × IsReturned old ps child cps new qs rs back.value
Places (Err (Memory back)) old ps child cps new qs rs =
    (awaited (suspended (top old)) ≡ Some child.own.name) × IsReturned old ps child cps new qs rs back.value
