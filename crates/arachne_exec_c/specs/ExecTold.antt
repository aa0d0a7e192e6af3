-- The executor's results as C gets them, and the change of a handle's seat by each call.
use Rattle.std.specs.Prelude.{◌≡◌, ◌⊎◌, ℕ, ◌+◌, ◌*◌, ◌/◌, ◌%◌, ◌^◌, ◌<◌, Bool, true, false, if◌then◌else◌}
use Rattle.std.specs.Int.{bit_at}
use Rattle.std.specs.Option.{MatchOption}
use Rattle.std.specs.declared.option.Option.{Option}
use Rattle.std.specs.declared.option.Option.TheVariants.{None, Some}
use Rattle.arachne_exec.specs.declared.answers.HeldJob.{HeldJob}
use Rattle.arachne_exec.specs.declared.answers.Next.{Next}
use Rattle.arachne_exec.specs.declared.answers.Next.TheVariants as next
use Rattle.arachne_exec.specs.declared.answers.JobRested.{JobRested}
use Rattle.arachne_exec.specs.declared.answers.JobRested.TheVariants as rested
use Rattle.arachne_exec.specs.declared.answers.JobSpawned.{JobSpawned}
use Rattle.arachne_exec.specs.declared.answers.JobSpawned.TheVariants as spawned
use Rattle.arachne_exec.specs.declared.answers.SpawnedHere.{SpawnedHere}
use Rattle.arachne_exec.specs.declared.answers.SpawnedHere.TheVariants as spawned_here
use Rattle.arachne_exec.specs.declared.answers.JobWoken.{JobWoken}
use Rattle.arachne_exec.specs.declared.answers.JobWoken.TheVariants as woken
use Rattle.arachne_exec.specs.declared.answers.WokenHere.{WokenHere}
use Rattle.arachne_exec.specs.declared.answers.WokenHere.TheVariants as here
use Rattle.arachne_exec.specs.Calls.{worker_at, HasSpawned, HasSpawnedHere, HasTakenInTurn, HasTakenNone, HasTakenMany, HasStarted, HasRested, HasFinished, HasWoken, HasWokenHere, HasAnswered, HasFoundNone, HasFoundSome}
use Rattle.arachne_exec.specs.Layout.{numbers_at}
use Rattle.arachne_exec.specs.Changes.{laying_down, noted, rousing, rising, working}
use Rattle.arachne_exec_c.specs.Codes as code
use Rattle.arachne_exec_c.specs.Executing.{Exec, now, turned, holding, HasBlock, IsEmptyHanded, IsWorker, IsNoWorker}
use Rattle.arachne_exec_c.specs.declared.exec_told.ArachneExecTold.{ArachneExecTold}

-- the worker of a place, if it must be unparked
abbrev pub whom : Bool → ℕ → ℕ
whom unpark place = if unpark then worker_at place else code.nobody

abbrev pub code_alone : ℕ → ArachneExecTold
code_alone k = record { name = 0; job = 0; code = k; unpark = code.nobody }

abbrev pub code_unparking : ℕ → ℕ → ArachneExecTold
code_unparking k worker = record { name = 0; job = 0; code = k; unpark = worker }

abbrev pub told_job : HeldJob → ArachneExecTold
told_job job = record { name = job.name; job = job.job; code = code.run; unpark = code.nobody }

abbrev pub told_spawned : JobSpawned → ArachneExecTold
told_spawned (spawned.Placed at) = record { name = at.name; job = 0; code = code.ready; unpark = whom at.unpark at.place }
told_spawned spawned.Full = code_alone code.full
told_spawned spawned.Lost = code_alone code.lost

abbrev pub told_spawned_here : SpawnedHere → ArachneExecTold
told_spawned_here (spawned_here.Held job) = told_job job
told_spawned_here spawned_here.Full = code_alone code.full
told_spawned_here spawned_here.Lost = code_alone code.lost

abbrev pub told_taken : Option HeldJob → ArachneExecTold
told_taken None = code_alone code.again
told_taken (Some job) = told_job job

abbrev pub told_next : Next → ArachneExecTold
told_next (next.Run job) = told_job job
told_next next.Park = code_alone code.park
told_next next.Again = code_alone code.again

abbrev pub told_rested : ℕ → JobRested → ArachneExecTold
told_rested place rested.Blocked = code_alone code.blocked
told_rested place (rested.Ready unpark) = code_unparking code.ready (whom unpark place)

abbrev pub told_woken : ℕ → JobWoken → ArachneExecTold
told_woken place (woken.Ready unpark) = code_unparking code.ready (whom unpark place)
told_woken place woken.Marked = code_alone code.marked
told_woken place woken.Already = code_alone code.already_marked
told_woken place woken.Gone = code_alone code.gone
told_woken place woken.Lost = code_alone code.lost

abbrev pub told_woken_here : WokenHere → ArachneExecTold
told_woken_here (here.Held job) = told_job job
told_woken_here here.Marked = code_alone code.marked
told_woken_here here.Already = code_alone code.already_marked
told_woken_here here.Gone = code_alone code.gone
told_woken_here here.Lost = code_alone code.lost

-- ---- the job that the seat holds after a call

abbrev pub place_of_job : Option HeldJob → Option ℕ
place_of_job None = None
place_of_job (Some job) = Some job.place

abbrev pub job_to_run : Next → Option HeldJob
job_to_run (next.Run job) = Some job
job_to_run next.Park = None
job_to_run next.Again = None

abbrev pub job_spawned : SpawnedHere → Option HeldJob
job_spawned (spawned_here.Held job) = Some job
job_spawned spawned_here.Full = None
job_spawned spawned_here.Lost = None

abbrev pub job_woken : WokenHere → Option HeldJob
job_woken (here.Held job) = Some job
job_woken here.Marked = None
job_woken here.Already = None
job_woken here.Gone = None
job_woken here.Lost = None

-- ---- the change by each call, as `arachne_exec` defines it

pub record Spawns (block job : ℕ) (old new : Exec) (answer : JobSpawned) : Type 0 where
  pub stays : new ≡ now old new.seat.known old.hand
  pub did : HasSpawned answer block job old.seat.known new.seat.known

pub record SpawnsHere (block job : ℕ) (old new : Exec) (answer : SpawnedHere) : Type 0 where
  pub stays : new ≡ now old new.seat.known (place_of_job (job_spawned answer))
  pub did : HasSpawnedHere answer block job old.seat.known new.seat.known

-- the word was read, and this was its value
abbrev pub LooksAt : ℕ → Exec → Exec → ℕ → Type 0
LooksAt word old new answer = new ≡ now old (noted word answer old.seat.known) old.hand

pub record Takes (block : ℕ) (old new : Exec) (answer : Option HeldJob) : Type 0 where
  pub stays : new ≡ turned new.seat.turn (now old new.seat.known (place_of_job answer))
  pub did : MatchOption answer (HasTakenNone block old.seat.known new.seat.known) (λ job. HasTakenInTurn old.seat.turn job block old.seat.known new.seat.known)
  pub turn : MatchOption answer (new.seat.turn ≡ old.seat.turn) (λ job. new.seat.turn ≡ job.place % 64 + 1)

pub record TakesMany (block most : ℕ) (old new : Exec) (bits : ℕ) : Type 0 where
  pub stays : new ≡ holding old new.seat.known block bits
  pub did : HasTakenMany bits block most old.seat.known new.seat.known

pub record Starts (place : ℕ) (old new : Exec) (job : HeldJob) : Type 0 where
  pub stays : new ≡ now old new.seat.known old.hand
  pub did : HasStarted job place old.seat.known new.seat.known

pub record GoesOn (old new : Exec) (answer : Next) : Type 0 where
  pub stays : new ≡ now old new.seat.known (place_of_job (job_to_run answer))
  pub did : (worker : ℕ) → old.worker ≡ worker + 1 → HasAnswered answer old.executor.shards worker old.seat.known new.seat.known

pub record Rests (place : ℕ) (old new : Exec) (answer : JobRested) : Type 0 where
  pub stays : new ≡ holding old new.seat.known (place / 64) old.more
  pub did : HasRested answer place old.seat.known new.seat.known

-- the job that the seat took last is ready again
abbrev pub Yields : ℕ → Exec → Exec → Bool → Type 0
Yields place old new unpark = new ≡ holding old (rousing unpark (worker_at place) (laying_down old.seat.known)) (place / 64) old.more

pub record Ends (place : ℕ) (old new : Exec) : Type 0 where
  pub stays : new ≡ holding old new.seat.known (place / 64) old.more
  pub did : HasFinished place old.seat.known new.seat.known

pub record Wakes (name : ℕ) (old new : Exec) (answer : JobWoken) : Type 0 where
  pub stays : new ≡ now old new.seat.known old.hand
  pub did : HasWoken answer (4096 * old.executor.shards) (name % 2 ^ 20) (name / 2 ^ 20) old.seat.known new.seat.known

pub record WakesHere (name : ℕ) (old new : Exec) (answer : WokenHere) : Type 0 where
  pub stays : new ≡ now old new.seat.known (place_of_job (job_woken answer))
  pub did : HasWokenHere answer (4096 * old.executor.shards) (name % 2 ^ 20) (name / 2 ^ 20) old.seat.known new.seat.known

-- the seat found this word of worker numbers, and is now the worker `number` - 1, or no worker if `number` is 0
abbrev pub as_worker : Exec → (number numbers : ℕ) → Exec
as_worker exec number numbers = record { executor = exec.executor; seat = record exec.seat { known = working number (noted numbers_at numbers exec.seat.known) }; hand = exec.hand; more = exec.more; worker = number }

-- ---- a call by the seat that a handle holds, if it holds one

-- the call was made, and C gets its result
abbrev pub Tells : {R A : Type 0} → (Exec → Exec → R → Type 0) → (R → A) → Exec → Exec → A → Type 0
Tells {R} Does tell old new told = (answer : R) × Does old new answer × (told ≡ tell answer)

-- a call that the seat may make is made, and C gets its result; otherwise nothing changes, and C gets the refusal
abbrev pub IsTold : {A : Type 0} → (Exec → Type 0) → (Exec → Exec → A → Type 0) → A → Option Exec → Option Exec → A → Type 0
IsTold May Does refusal None new told = (new ≡ None) × (told ≡ refusal)
IsTold May Does refusal (Some old) new told = (May old → (after : Exec) × (new ≡ Some after) × Does old after told)
    × ((May old → ⊥) → (new ≡ Some old) × (told ≡ refusal))

-- like `IsTold`, for a call on the job that the seat took last
abbrev pub IsToldOf : {A : Type 0} → (ℕ → Exec → Exec → A → Type 0) → A → Option Exec → Option Exec → A → Type 0
IsToldOf Does refusal None new told = (new ≡ None) × (told ≡ refusal)
IsToldOf Does refusal (Some old) new told = MatchOption old.hand ((new ≡ Some old) × (told ≡ refusal))
    (λ place. (after : Exec) × (new ≡ Some after) × Does place old after told)

-- Park: the worker has set its idle bit, and then found all of its summary words 0. Again: one was not 0, and the
-- worker has cleared the bit again.
abbrev pub ParksOrNot : Exec → Exec → ℕ → Type 0
ParksOrNot old new told = (new ≡ now old new.seat.known old.hand)
    × (((told ≡ code.park) × ((worker : ℕ) → old.worker ≡ worker + 1 → HasFoundNone old.executor.shards worker old.seat.known new.seat.known))
    ⊎ ((told ≡ code.again) × ((worker : ℕ) → old.worker ≡ worker + 1 → HasFoundSome old.executor.shards worker old.seat.known new.seat.known)))

-- the worker has cleared its idle bit
abbrev pub HasRisen : Exec → Exec → Type 0
HasRisen old new = (new ≡ now old new.seat.known old.hand) × ((worker : ℕ) → old.worker ≡ worker + 1 → (found : ℕ) × (new.seat.known ≡ rising worker found old.seat.known))

abbrev pub WakesUp : Exec → Exec → ℕ → Type 0
WakesUp old new told = HasRisen old new × (told ≡ code.done)

abbrev pub Finishes : ℕ → Exec → Exec → ℕ → Type 0
Finishes place old new told = Ends place old new × (told ≡ code.done)

-- the number's bit was found clear: another seat has it
abbrev pub IsTaken : ℕ → Exec → Exec → Type 0
IsTaken worker old new = (numbers : ℕ) × (bit_at numbers worker ≡ 0) × (new ≡ now old (noted numbers_at numbers old.seat.known) old.hand)

-- the number's bit was found set: the seat has the number
abbrev pub IsGiven : ℕ → Exec → Exec → Type 0
IsGiven worker old new = (numbers : ℕ) × (bit_at numbers worker ≡ 1) × (new ≡ as_worker old (worker + 1) numbers)

-- Lost: another seat has this number.
abbrev pub Registers : ℕ → Exec → Exec → ℕ → Type 0
Registers worker old new told = ((told ≡ code.done) × IsGiven worker old new) ⊎ ((told ≡ code.lost) × IsTaken worker old new)

-- the seat has no worker number any more
abbrev pub HasLeft : Exec → Exec → Type 0
HasLeft old new = (numbers : ℕ) × (new ≡ as_worker old 0 numbers)

abbrev pub Leaves : Exec → Exec → ℕ → Type 0
Leaves old new told = (told ≡ code.done) × HasLeft old new

abbrev pub MayTake : ℕ → Exec → Type 0
MayTake block old = IsEmptyHanded old × HasBlock block old

abbrev pub MayGoOn : Exec → Type 0
MayGoOn old = IsEmptyHanded old × IsWorker old

abbrev pub MayRegister : ℕ → Exec → Type 0
MayRegister worker old = IsNoWorker old × (worker < 64)
