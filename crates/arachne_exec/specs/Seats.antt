-- What contracts see of an executor and of its seats.
use Rattle.std.specs.Prelude.{◌≡◌, ℕ, ◌*◌, ◌≤◌, List, ◌∷◌}
use Rattle.atomic_table.specs.{Seated.TableId, Table.rest}
use Rattle.arachne_exec.specs.{declared.view.Notes.Notes, Layout.{words_of, mark_at}, Changes.{older, noted}}

-- an executor's table, and its number of shards
pub record Places : Type 0 where
  pub table : TableId
  pub shards : ℕ

pub record IsLaidOut (table : TableId) (key shards : ℕ) : Type 0 where
  pub keyed : key ≡ shards
  pub words : table.words ≡ words_of (64 * shards)
  pub slots : table.slots ≡ 4096 * shards
  pub few : shards ≤ 256

-- a seat: its table, its weight, its record, and the index at which its next `take` begins
pub record SeatView : Type 0 where
  pub table : TableId
  pub weight : ℕ
  pub known : Notes
  pub turn : ℕ

-- a seat within a call, with the slots that it may access, the one that it took last first
pub record CallView : Type 0 where
  pub table : TableId
  pub weight : ℕ
  pub known : Notes
  pub slots : List (ℕ × ℕ)

-- Between two calls, a seat may access the slots of the places that it holds, and no others, and owes nothing: no job
-- at a claimed place, no bit and no look at the idle word.
pub record IsCalm (k : Notes) (slots : List (ℕ × ℕ)) : Type 0 where
  pub out : slots ≡ k.hand
  pub spawned : k.unspawned ≡ 0
  pub shown : k.unshown ≡ 0
  pub debt : k.owes ≡ 0

-- of the places that the seat holds, this one was taken last
pub record IsNewest (place : ℕ) (k : Notes) : Type 0 where
  pub job : ℕ
  pub hand : k.hand ≡ (place, job) ∷ older k.hand

-- within a call: the seat took this place last, holds this job there, and has this number in the place's slot
pub record HasNewest (place job inside : ℕ) (v : CallView) : Type 0 where
  pub hand : v.known.hand ≡ (place, job) ∷ older v.known.hand
  pub slot : v.slots ≡ (place, inside) ∷ rest v.slots

-- the seat's last step has found the place's mark, of which this is true
abbrev pub HasFoundMark : ℕ → (ℕ → Type 0) → Notes → Type 0
HasFoundMark place Holds k = (mark : ℕ) × (before : Notes) × (k ≡ noted (mark_at place) mark before) × Holds mark
