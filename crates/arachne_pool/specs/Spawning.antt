-- The result of a spawn.
use Rattle.std.specs.Prelude.{◌≡◌, ℕ, ◌+◌, ◌-◌, ◌^◌, ◌<◌, ◌⊎◌, List, [], ◌∷◌, ◌++◌, Option, None, IsSome}
use Rattle.arachne_pool.specs.Jobs.{Being}
use Rattle.arachne_pool.specs.Workers.{HasNoCore, WorkerView}
use Rattle.arachne_pool.specs.declared.spawning.Refusal.{Refusal}
use Rattle.arachne_pool.specs.declared.spawning.Refusal.TheVariants.{NoPlace, Memory, NoSeat}

-- true if a worker with this seat can refuse a job for this reason: `NoSeat` only if it has no seat, and `NoPlace` only
-- if it has one
abbrev pub IsRefusedBy : {Seat : Type 0} → Option Seat → Refusal → Type 0
IsRefusedBy seat NoPlace = IsSome seat
IsRefusedBy seat Memory = Unit {0}
IsRefusedBy seat NoSeat = seat ≡ None

-- true if a worker has counted one more spawned job, unless its count has saturated, and has reported its counts to the
-- pool
pub record SpawnsOne {Seat Job : Type 0} (old new : WorkerView Seat Job) : Type 0 where
  pub spawned : old.tally.spawned < 2 ^ 64 - 1 → new.tally.spawned ≡ old.tally.spawned + 1
  pub ended : new.tally.ended ≡ old.tally.ended
  pub told : new.told ≡ new.tally

-- true if a worker with this seat can have refused a job for this reason: only after `Memory` can it have lost its seat
abbrev pub IsKeptAfter : {Seat : Type 0} → Option Seat → Refusal → Type 0
IsKeptAfter seat NoPlace = IsSome seat
IsKeptAfter seat Memory = Unit {0}
IsKeptAfter seat NoSeat = Unit {0}

-- true if a worker has refused a job: it returns the job with the reason `why`, and has changed nothing but its seat
pub record HandsBack {Seat Job : Type 0} (job : Job) (old new : WorkerView Seat Job) (back : Job) (why : Refusal) : Type 0 where
  pub same : back ≡ job
  pub refused : IsRefusedBy old.seat why
  pub kept : new ≡ record old { seat = new.seat }
  pub seat : IsKeptAfter new.seat why

-- true if the queue is the same, or has only got the given job as its last
abbrev pub KeepsLast : {Job : Type 0} → Being Job → List (Being Job) → List (Being Job) → Type 0
KeepsLast given old new = (new ≡ old) ⊎ (new ≡ old ++ given ∷ [])

-- true unless the reason is `NoPlace` and the worker has already worked for a core: then it would have kept the job
abbrev pub IsRefusedUnkept : {Seat Job : Type 0} → ℕ → WorkerView Seat Job → Refusal → Type 0
IsRefusedUnkept cores old NoPlace = HasNoCore cores old
IsRefusedUnkept cores old Memory = Unit {0}
IsRefusedUnkept cores old NoSeat = Unit {0}
