-- The invariant of a cell between any two steps.
use Rattle.std.specs.Prelude.{◌≡◌, ℕ, List, length, slice_index, Option, Some, None}
use mathlib.Core.Option.{some}
use mathlib.Core.Option as maybe
use lib.ListN.{get_elem?}
use Rattle.atomic_table.specs.Table as table
use Rattle.arachne_join.specs.declared.view.Role.{Role, TheVariants.{Maker, Sender, Left, PutBack, Fetched, Saw, Never}}
use Rattle.arachne_join.specs.declared.view.View.{View}

-- At most one seat has one of these roles: the seat that has the slot, or the one that fetched the value.
abbrev pub IsExclusive : Role → Type 0
IsExclusive Maker = Unit {0}
IsExclusive Sender = Unit {0}
IsExclusive Left = ⊥
IsExclusive PutBack = ⊥
IsExclusive Fetched = Unit {0}
IsExclusive (Saw s) = ⊥
IsExclusive Never = Unit {0}

-- the word is what a seat with this role leaves there
abbrev pub IsMadeBy : ℕ → Role → Type 0
IsMadeBy word Maker = word ≡ 0
IsMadeBy word Sender = word ≡ 0
IsMadeBy word Left = word ≡ 1
IsMadeBy word PutBack = word ≡ 3
IsMadeBy word Fetched = word ≡ 2
IsMadeBy word (Saw s) = ⊥
IsMadeBy word Never = ⊥

module _ {T : Type 0} where
  -- what a seat with this role knows of the word and of the slot
  abbrev pub Knows : ℕ → List (maybe.Option (Option T)) → Role → Type 0
  Knows word homes Maker = (word ≡ 0) × (get_elem? homes 0 ≡ some (some None))
  Knows word homes Sender = word ≡ 0
  Knows word homes Left = Unit {0}
  Knows word homes PutBack = Unit {0}
  Knows word homes Fetched = word ≡ 2
  Knows word homes (Saw s) = Unit {0}
  Knows word homes Never = ⊥

  -- the slot is in the table, with a value of which P is true
  abbrev pub IsHome : (T → Type 0) → List (maybe.Option (Option T)) → Type 0
  IsHome P homes = (value : T) × (get_elem? homes 0 ≡ some (some (Some value))) × P value

module _ {T K : Type 0} (fits may_wait : T → Type 0) where
  -- If the word is 1, the slot is in the table with a value that fits; if it is 3, with one that may wait. Some seat
  -- has left the word as it is: the sending end 0, the one that left the value 1, the one that fetched it 2, and the
  -- one that put a value back 3.
  pub record IsLawful (word : ℕ) (homes : List (maybe.Option (Option T))) (views : List (View K)) : Type 0 where
    pub full : word ≡ 1 → IsHome fits homes
    pub waiting : word ≡ 3 → IsHome may_wait homes
    pub made : (i : ℕ) × (v : View K) × (get_elem? views i ≡ some v) × IsMadeBy word v.role
    pub known : (i : ℕ) (v : View K) → get_elem? views i ≡ some v → Knows word homes v.role
    pub exclusive : (i j : ℕ) (v w : View K) → get_elem? views i ≡ some v → get_elem? views j ≡ some w → IsExclusive v.role → IsExclusive w.role → i ≡ j

  -- the invariant of a cell's table, which has one word
  abbrev pub IsKept : table.State (Option T) (View K) → Type 0
  IsKept s = (length s.words ≡ 1) × IsLawful (slice_index s.words 0) s.homes s.views
