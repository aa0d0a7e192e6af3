-- For each step on a block, a relation between the seat before it, the word that was found, and the seat after it.
use Rattle.std.specs.{Prelude.{◌≡◌, ◌≢◌, ℕ, ◌+◌, [], ◌∷◌}, declared.snapshot.Snapshot.Snapshot}
use Rattle.atomic_table.specs.Table.{Me}
use Rattle.arachne_join.specs.{Parts.{part_view, as_part, word_after, IsReceivingFor}, declared.part.Content.Content}
use Rattle.arachne_join.specs.declared.part.{Content.TheVariants.{Empty, For, Value}, Part.Part, PartView.PartView}
use Rattle.arachne_join.specs.declared.part.Part.TheVariants.{Rest, Fresh, Unused, Opened, Sending, Receiving, Spent}

module _ {K : Type 0} where
  -- the two seats after a seat that has all cells from an index on was split: the second has the first of these cells
  abbrev pub without_first : PartView K → PartView K
  without_first v = part_view Rest (v.index + 1) v.passed

  abbrev pub the_first : PartView K → PartView K
  the_first v = as_part v Fresh

  -- the two ends of an opened cell
  abbrev pub sending_part : Part K → Part K
  sending_part Rest = Rest
  sending_part Fresh = Fresh
  sending_part Unused = Unused
  sending_part (Opened key) = Sending key
  sending_part (Sending key) = Sending key
  sending_part (Receiving key misses) = Receiving key misses
  sending_part Spent = Spent

  abbrev pub receiving_part : Part K → Part K
  receiving_part Rest = Spent
  receiving_part Fresh = Spent
  receiving_part Unused = Spent
  receiving_part (Opened key) = Receiving key 0
  receiving_part (Sending key) = Spent
  receiving_part (Receiving key misses) = Spent
  receiving_part Spent = Spent

  abbrev pub sending_end : PartView K → PartView K
  sending_end v = as_part v (sending_part v.part)

  abbrev pub receiving_end : PartView K → PartView K
  receiving_end v = as_part v (receiving_part v.part)

  -- the receiving end after it has looked once more and found no value
  abbrev pub missed_part : Part K → Part K
  missed_part Rest = Rest
  missed_part Fresh = Fresh
  missed_part Unused = Unused
  missed_part (Opened key) = Opened key
  missed_part (Sending key) = Sending key
  missed_part (Receiving key misses) = Receiving key (misses + 1)
  missed_part Spent = Spent

  abbrev pub missed_once : PartView K → PartView K
  missed_once v = as_part v (missed_part v.part)

  abbrev pub misses_of : Part K → ℕ
  misses_of Rest = 0
  misses_of Fresh = 0
  misses_of Unused = 0
  misses_of (Opened key) = 0
  misses_of (Sending key) = 0
  misses_of (Receiving key misses) = misses
  misses_of Spent = 0

  -- the cell after its value was fetched
  abbrev pub emptied : PartView K → PartView K
  emptied v = part_view Unused v.index (v.passed + 1)

module _ {T K : Type 0} where
  -- a seat that holds its cell's slot
  abbrev pub with_slot : PartView K → Content T K → Me (Content T K) (PartView K)
  with_slot v content = (v, (v.index, content) ∷ [])

  -- an unused cell, whose slot is with the seat
  abbrev pub IsUnusedAt : ℕ → ℕ → Me (Content T K) (PartView K) → Type 0
  IsUnusedAt i passed m = m ≡ with_slot (part_view Unused i passed) Empty

  -- the sending end, with the slot, which has no value
  abbrev pub IsSendingAt : ℕ → ℕ → K → Me (Content T K) (PartView K) → Type 0
  IsSendingAt i passed key m = (asked : Snapshot K) × (m ≡ with_slot (part_view (Sending key) i passed) (For asked))

  abbrev pub IsReceivingAt : ℕ → ℕ → K → ℕ → Me (Content T K) (PartView K) → Type 0
  IsReceivingAt i passed key misses m = m ≡ (part_view (Receiving key misses) i passed, [])

  -- the seat takes the slot of a cell that was never used
  abbrev pub Starts : Me (Content T K) (PartView K) → Me (Content T K) (PartView K) → Type 0
  Starts m w = w ≡ with_slot (as_part m.0 Unused) Empty

  -- the cell is opened for the key in the slot
  abbrev pub Opens : Me (Content T K) (PartView K) → Me (Content T K) (PartView K) → Type 0
  Opens m w = (asked : Snapshot K) → m ≡ with_slot m.0 (For asked) → w ≡ with_slot (as_part m.0 (Opened asked.value)) (For asked)

  -- If the word found says that one more value was left, the seat has the whole cell, with a value that fits its key.
  -- Otherwise it has missed once more.
  abbrev pub Fetches : (K → T → Type 0) → Me (Content T K) (PartView K) → ℕ → Me (Content T K) (PartView K) → Type 0
  Fetches fits m found w = (key : K) → IsReceivingFor key m.0.part
      → (found ≡ word_after (m.0.passed + 1) → (value : T) × (w ≡ with_slot (emptied m.0) (Value value)) × fits key value)
      × (found ≢ word_after (m.0.passed + 1) → w ≡ (missed_once m.0, m.1))
