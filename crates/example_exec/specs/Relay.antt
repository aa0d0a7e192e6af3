-- The jobs that a seat of the executor has in hand.
use Rattle.std.specs.Prelude.{◌≡◌, [], ◌∷◌}
use Rattle.arachne_exec.specs.Seats.{Places, SeatView}
use Rattle.arachne_exec.specs.declared.answers.HeldJob.{HeldJob}

-- the seat is one of the executor's, and has no job in hand
abbrev pub HasNone : Places → SeatView → Type 0
HasNone executor seat = (seat.table ≡ executor.table) × (seat.known.hand ≡ [])

-- the same, and the seat is not registered as a worker
abbrev pub IsFree : Places → SeatView → Type 0
IsFree executor seat = (seat.table ≡ executor.table) × (seat.known.hand ≡ []) × (seat.known.worker ≡ 0)

-- the seat is one of the executor's, and has only this job in hand
abbrev pub HasOne : Places → HeldJob → SeatView → Type 0
HasOne executor job seat = (seat.table ≡ executor.table) × (seat.known.hand ≡ (job.place, job.job) ∷ [])
