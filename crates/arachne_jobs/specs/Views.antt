-- What contracts see of a queue and of a pass (a right to use it).
use Rattle.std.specs.Prelude.{◌≡◌, ℕ, ◌+◌, List, length}
use Rattle.atomic_table.specs.Seated.{TableId}
use Rattle.arachne_weights.specs.{Weight.whole, Tokens.held}
use Rattle.arachne_jobs.specs.{declared.spill.Known.Known, Balance.{IsMoment, times}}

-- the largest number of items in a queue
abbrev pub capacity : ℕ
capacity = 256

-- the queue's identity
pub record QueueView : Type 0 where
  pub table : TableId

-- the queue of a pass, its part of the whole weight, and the tags of the items pushed and popped with it
pub record PassView : Type 0 where
  pub table : TableId
  pub weight : ℕ
  pub pushed : List ℕ
  pub popped : List ℕ

-- true if the pass is one for this queue
abbrev pub IsPassOf : QueueView → PassView → Type 0
IsPassOf queue pass = pass.table ≡ queue.table

-- true if all other passes were joined into this one
abbrev pub IsWhole : PassView → Type 0
IsWhole pass = pass.weight ≡ whole

abbrev pub known_of : PassView → Known
known_of pass = record { pushed = pass.pushed; popped = pass.popped }

-- true if at one moment of the call the queue held this number of items, and its invariant held for all passes, with
-- this one
abbrev pub WasSeen : {T : Type 0} → (T → ℕ) → PassView → ℕ → Type 0
WasSeen {T} tag_of pass count = (items : List T) × (length items ≡ count) × IsMoment tag_of (held pass.weight (known_of pass)) items

-- true if the pass has popped each tag as often as it has pushed it
abbrev pub AllCameOut : PassView → Type 0
AllCameOut pass = (tag : ℕ) → times tag pass.pushed ≡ times tag pass.popped

-- true if the pass has pushed this number of items more than it has popped
abbrev pub IsAheadBy : PassView → ℕ → Type 0
IsAheadBy pass count = length pass.pushed ≡ length pass.popped + count

-- true if at one moment of the call the queue held this number of items; a pass with the whole weight has then pushed
-- as many more than it has popped
abbrev pub HasCounted : {T : Type 0} → (T → ℕ) → PassView → ℕ → Type 0
HasCounted tag_of pass count = WasSeen tag_of pass count × (IsWhole pass → IsAheadBy pass count)
