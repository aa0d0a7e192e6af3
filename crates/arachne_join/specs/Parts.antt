-- The part of a block's cells that a seat has, and what it knows of them.
use Rattle.std.specs.Prelude.{◌≡◌, ◌⊎◌, ℕ, ◌+◌, ◌%◌, ◌<◌, ◌≤◌, List, length, slice_index}
use mathlib.Core.Option.{some}
use mathlib.Core.Option as maybe
use lib.ListN.{get_elem?}
use Rattle.arachne_join.specs.declared.part.Content.{Content, TheVariants.{Empty, Value}}
use Rattle.arachne_join.specs.declared.part.{Part.Part, PartView.PartView}
use Rattle.arachne_join.specs.declared.part.Part.TheVariants.{Rest, Fresh, Unused, Opened, Sending, Receiving, Spent}

-- a cell's word after `passed` values were left in it
abbrev pub word_after : ℕ → ℕ
word_after passed = passed % 2

module _ {K : Type 0} where
  abbrev pub part_view : Part K → ℕ → ℕ → PartView K
  part_view part index passed = record { part = part; index = index; passed = passed }

  -- the same cell, with another part of it
  abbrev pub as_part : PartView K → Part K → PartView K
  as_part v part = part_view part v.index v.passed

  -- a seat with this part at index n has the right to leave a value in cell i
  abbrev pub MaySend : Part K → ℕ → ℕ → Type 0
  MaySend Rest n i = n ≤ i
  MaySend Fresh n i = n ≡ i
  MaySend Unused n i = n ≡ i
  MaySend (Opened key) n i = n ≡ i
  MaySend (Sending key) n i = n ≡ i
  MaySend (Receiving key misses) n i = ⊥
  MaySend Spent n i = ⊥

  -- a seat with this part at index n has the right to fetch from cell i
  abbrev pub MayReceive : Part K → ℕ → ℕ → Type 0
  MayReceive Rest n i = n ≤ i
  MayReceive Fresh n i = n ≡ i
  MayReceive Unused n i = n ≡ i
  MayReceive (Opened key) n i = n ≡ i
  MayReceive (Sending key) n i = ⊥
  MayReceive (Receiving key misses) n i = n ≡ i
  MayReceive Spent n i = ⊥

  abbrev pub IsSendingFor : K → Part K → Type 0
  IsSendingFor key Rest = ⊥
  IsSendingFor key Fresh = ⊥
  IsSendingFor key Unused = ⊥
  IsSendingFor key (Opened k) = ⊥
  IsSendingFor key (Sending k) = k ≡ key
  IsSendingFor key (Receiving k misses) = ⊥
  IsSendingFor key Spent = ⊥

  abbrev pub IsReceivingFor : K → Part K → Type 0
  IsReceivingFor key Rest = ⊥
  IsReceivingFor key Fresh = ⊥
  IsReceivingFor key Unused = ⊥
  IsReceivingFor key (Opened k) = ⊥
  IsReceivingFor key (Sending k) = ⊥
  IsReceivingFor key (Receiving k misses) = k ≡ key
  IsReceivingFor key Spent = ⊥

  -- Two seats: no right belongs to both, and the two ends of one cell have the same key and the same count.
  pub record AreApart (v w : PartView K) : Type 0 where
    pub send : (i : ℕ) → MaySend v.part v.index i → MaySend w.part w.index i → ⊥
    pub receive : (i : ℕ) → MayReceive v.part v.index i → MayReceive w.part w.index i → ⊥
    pub paired : (j k : K) → IsSendingFor j v.part → IsReceivingFor k w.part → v.index ≡ w.index → (j ≡ k) × (v.passed ≡ w.passed)

module _ {T K : Type 0} where
  -- the cell was never used
  abbrev pub IsFresh : List ℕ → List (maybe.Option (Content T K)) → ℕ → Type 0
  IsFresh words homes i = (slice_index words i ≡ 0) × (get_elem? homes i ≡ some (some Empty))

  module _ (fits : K → T → Type 0) where
    -- a value that fits the key is in the cell
    abbrev pub HasCome : K → List ℕ → List (maybe.Option (Content T K)) → ℕ → ℕ → Type 0
    HasCome key words homes i passed =
        (slice_index words i ≡ word_after (passed + 1)) × ((value : T) × (get_elem? homes i ≡ some (some (Value value))) × fits key value)

    -- The knowledge of a seat with this part at index i about the words, and about the slots in the table, after
    -- `passed` values have passed through the cell.
    abbrev pub Knows : List ℕ → List (maybe.Option (Content T K)) → ℕ → ℕ → Part K → Type 0
    Knows words homes i passed Rest = (j : ℕ) → i ≤ j → j < length homes → IsFresh words homes j
    Knows words homes i passed Fresh = i < length homes → IsFresh words homes i
    Knows words homes i passed Unused = slice_index words i ≡ word_after passed
    Knows words homes i passed (Opened key) = slice_index words i ≡ word_after passed
    Knows words homes i passed (Sending key) = slice_index words i ≡ word_after passed
    Knows words homes i passed (Receiving key misses) = (slice_index words i ≡ word_after passed) ⊎ HasCome key words homes i passed
    Knows words homes i passed Spent = Unit {0}
