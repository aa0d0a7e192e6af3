-- The seat that a handle on an executor holds, and its change by each call.
use Rattle.std.specs.Prelude.{◌≡◌, ◌⊎◌, ℕ, ◌+◌, ◌*◌, ◌/◌, ◌^◌, ◌<◌, ◌≤◌, ◌==◌, if◌then◌else◌, map, List, [], ◌∷◌}
use Rattle.std.specs.Int.{w64, trailing_zeros}
use Rattle.std.specs.Int.RustNames.{bit_and}
use Rattle.std.specs.declared.option.Option.{Option}
use Rattle.std.specs.declared.option.Option.TheVariants.{None, Some}
use Rattle.arachne_weights.specs.Weight.{whole, first_part, second_part, joined}
use Rattle.arachne_exec.specs.declared.view.Notes.{Notes}
use Rattle.arachne_exec.specs.Layout.{others, places_in_word}
use Rattle.arachne_exec.specs.Changes.{blank, splitting, together}
use Rattle.arachne_exec.specs.Seats.{Places, SeatView}
use Rattle.arachne_exec_c.specs.Codes.{done, refused, no_memory}

-- A seat, its executor, the place of the job that it took last, a bit for each other place of the block that it holds,
-- and the seat's worker number plus one, or 0 if it has none.
pub record Exec : Type 0 where
  pub executor : Places
  pub seat : SeatView
  pub hand : Option ℕ
  pub more : ℕ
  pub worker : ℕ

-- the jobs are at the places of the block whose bits are set in the word
abbrev pub AreAt : ℕ → ℕ → List (ℕ × ℕ) → Type 0
AreAt block word jobs = map (λ (x : ℕ × ℕ). x.0) jobs ≡ places_in_word block word

-- the seat holds a job at this place, and then those at the other places of its block, or it holds nothing
abbrev pub IsInHand : ℕ → Option ℕ → ℕ → List (ℕ × ℕ) → Type 0
IsInHand shards None more hand = (hand ≡ []) × (more ≡ 0)
IsInHand shards (Some place) more hand = (job : ℕ) × (jobs : List (ℕ × ℕ)) × (hand ≡ (place, job) ∷ jobs) × AreAt (place / 64) more jobs × (place < 4096 * shards) × (more < 2 ^ 64)

pub record IsKept (exec : Exec) : Type 0 where
  pub own : exec.seat.table ≡ exec.executor.table
  pub held : IsInHand exec.executor.shards exec.hand exec.more exec.seat.known.hand
  pub number : exec.seat.known.worker ≡ exec.worker
  pub few : exec.worker ≤ 64

-- the seat with this record, and this place of the job that it took last
abbrev pub now : Exec → Notes → Option ℕ → Exec
now exec known hand = record { executor = exec.executor; seat = record exec.seat { known = known }; hand = hand; more = exec.more; worker = exec.worker }

-- the seat with this index at which its next `take` begins
abbrev pub turned : ℕ → Exec → Exec
turned turn exec = record exec { seat = record exec.seat { turn = turn } }

-- the place of the lowest bit of a block's word, and the word without that bit
abbrev pub lowest_place : ℕ → ℕ → Option ℕ
lowest_place block word = if word == 0 then None else Some (64 * block + trailing_zeros w64 word)

abbrev pub without_lowest : ℕ → ℕ
without_lowest word = if word == 0 then 0 else bit_and word (others (trailing_zeros w64 word))

-- the seat with this record, which holds the places of a block whose bits are set in a word
abbrev pub holding : Exec → Notes → ℕ → ℕ → Exec
holding exec known block word = record {
  executor = exec.executor;
  seat = record exec.seat { known = known };
  hand = lowest_place block word;
  more = without_lowest word;
  worker = exec.worker;
}

abbrev pub HasBlock : ℕ → Exec → Type 0
HasBlock block exec = block < 64 * exec.executor.shards

abbrev pub HasShard : ℕ → Exec → Type 0
HasShard shard exec = shard < exec.executor.shards

abbrev pub IsEmptyHanded : Exec → Type 0
IsEmptyHanded exec = exec.hand ≡ None

abbrev pub IsWorker : Exec → Type 0
IsWorker exec = 0 < exec.worker

abbrev pub IsNoWorker : Exec → Type 0
IsNoWorker exec = exec.worker ≡ 0

-- the seat holds no job, and has no worker number
abbrev pub IsIdle : Exec → Type 0
IsIdle exec = IsEmptyHanded exec × IsNoWorker exec

-- an executor of `shards` shards, and its first seat, which holds no job
pub record IsNew (shards : ℕ) (exec : Exec) : Type 0 where
  pub sized : exec.executor.shards ≡ shards
  pub seated : exec.seat ≡ record { table = exec.executor.table; weight = whole; known = blank; turn = 0 }
  pub idle : IsIdle exec

-- the parts of a seat that is split: the first keeps its jobs and counts the split, and the second begins with nothing
abbrev pub first_of : Exec → Exec
first_of exec = record exec { seat = record exec.seat { weight = first_part exec.seat.weight; known = splitting exec.seat.known } }

abbrev pub second_of : Exec → Exec
second_of exec = record {
  executor = exec.executor;
  seat = record { table = exec.seat.table; weight = second_part exec.seat.weight; known = blank; turn = 0 };
  hand = None;
  more = 0;
  worker = 0;
}

-- a seat after another was joined into it
abbrev pub joined_of : Exec → Exec → Exec
joined_of exec other = record exec { seat = record exec.seat { weight = joined exec.seat.weight other.seat.weight; known = together exec.seat.known other.seat.known } }

-- An empty handle gets a new executor of at most 256 shards. A handle in use is refused, and so are more shards. If
-- memory is refused, nothing changes.
abbrev pub IsMade : ℕ → Option Exec → Option Exec → ℕ → Type 0
IsMade shards (Some old) new answer = (answer ≡ refused) × (new ≡ Some old)
IsMade shards None None answer = (answer ≡ no_memory) ⊎ ((answer ≡ refused) × (256 < shards))
IsMade shards None (Some new) answer = (answer ≡ done) × IsNew shards new

-- If the first handle holds a seat and the second is empty, the seat is split, and the second handle gets the new seat.
-- If memory is refused, nothing changes.
abbrev pub IsSplit : Option Exec → Option Exec → Option Exec → Option Exec → ℕ → Type 0
IsSplit None other new other_new answer = (answer ≡ refused) × (new ≡ None) × (other_new ≡ other)
IsSplit (Some old) (Some other) new other_new answer = (answer ≡ refused) × (new ≡ Some old) × (other_new ≡ Some other)
IsSplit (Some old) None new None answer = (answer ≡ no_memory) × (new ≡ Some old)
IsSplit (Some old) None new (Some other) answer = (answer ≡ done) × (new ≡ Some (first_of old)) × (other ≡ second_of old)

-- The second handle's seat is joined into the first's, if both hold one, and the second holds no job and has no worker
-- number.
abbrev pub IsJoined : Option Exec → Option Exec → Option Exec → Option Exec → ℕ → Type 0
IsJoined (Some old) (Some other) new other_new answer =
    ((answer ≡ done) × IsIdle other × (new ≡ Some (joined_of old other)) × (other_new ≡ None))
    ⊎ ((answer ≡ refused) × (¬ IsIdle other) × (new ≡ Some old) × (other_new ≡ Some other))
IsJoined (Some old) None new other_new answer = (answer ≡ refused) × (new ≡ Some old) × (other_new ≡ None)
IsJoined None other new other_new answer = (answer ≡ refused) × (new ≡ None) × (other_new ≡ other)
