-- The slots and jobs that are out with a seat (claimed or taken through it, and not given back).
use Rattle.std.specs.Prelude.{ℕ, List, [], ◌∷◌, Option, None, Some}
use Rattle.arachne_contexts.specs.Out.{Out, Thread}
use Rattle.arachne_contexts.specs.declared.held.Held.{Held}

-- the table at which a worker's seat is, and the number of its cores
pub record Ground (Table : Type 0) : Type 0 where
  pub table : Table
  pub cores : ℕ

abbrev pub ground_at : {Table : Type 0} → Table → ℕ → Ground Table
ground_at table cores = record { table = table; cores = cores }

-- the thread that the worker runs now, as the table knows it
abbrev pub thread_in : {C T H : Type 0} → (T → ℕ) → Held T H → Out C H
thread_in tag held = Thread held.hold (tag held.value)

-- what is out if the worker runs this thread, or none
abbrev pub in_hand : {C T H : Type 0} → (T → ℕ) → Option (Held T H) → List (Out C H)
in_hand tag None = []
in_hand tag (Some held) = thread_in tag held ∷ []

-- true if some list says what is out with the seat
abbrev pub IsKnown : {Seat C H : Type 0} → (Seat → List (Out C H) → Type 0) → Seat → Type 0
IsKnown {Seat} {C} {H} has seat = (outs : List (Out C H)) × has seat outs

-- true if `out` is now out, besides what was out before
abbrev pub AddsOut : {Seat C H : Type 0} → (Seat → List (Out C H) → Type 0) → Out C H → Seat → Seat → Type 0
AddsOut {Seat} {C} {H} has out old new = (outs : List (Out C H)) → has old outs → has new (out ∷ outs)

-- true if `out` is no longer out, and everything else still is
abbrev pub IsSpent : {Seat C H : Type 0} → (Seat → List (Out C H) → Type 0) → Out C H → Seat → Seat → Type 0
IsSpent {Seat} {C} {H} has out old new = (outs : List (Out C H)) → has old (out ∷ outs) → has new outs
