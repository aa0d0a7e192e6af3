-- The occupancy word of a core, and its fields.
use Rattle.std.specs.Prelude.{◌≡◌, ℕ, zero, suc, ◌+◌, ◌*◌, ◌/◌, ◌%◌, ◌^◌, Bool, true, false, if◌then◌else◌, ◌==◌, List, [], ◌∷◌, replicate, slice_set, slice_index_or}
use Rattle.std.specs.Int.{bit_at}
use Rattle.arachne_core.specs.declared.layout.TheConstants.{MASK_BITS}

-- a core's occupied indexes, and whether it is closed or exclusive to one thread
pub record Occupancy : Type 0 where
  pub occupied : List Bool
  pub closed : Bool
  pub exclusive : Bool

abbrev pub bit : Bool → ℕ
bit b = if b then 1 else 0

-- the number whose bit i is set if flag i is true
abbrev pub mask_of : List Bool → ℕ
mask_of [] = 0
mask_of (b ∷ bs) = bit b + 2 * mask_of bs

-- the number of flags that are true
abbrev pub count_of : List Bool → ℕ
count_of [] = 0
count_of (b ∷ bs) = bit b + count_of bs

-- The occupancy word of these fields: the mask from bit 0, the number of occupied indexes from bit 56, closed at bit
-- 62, exclusive at bit 63.
abbrev pub occupancy_word : Occupancy → ℕ
occupancy_word c = mask_of c.occupied + 2 ^ MASK_BITS * count_of c.occupied + 2 ^ 62 * bit c.closed + 2 ^ 63 * bit c.exclusive

-- the n lowest bits of a number, as flags
unfoldable pub flags : ℕ → ℕ → List Bool
flags zero w = []
flags (suc n) w = (w % 2 == 1) ∷ flags n (w / 2)

-- the fields of a word
abbrev pub occupancy_of : ℕ → Occupancy
occupancy_of w = record { occupied = flags MASK_BITS w; closed = bit_at w 62 == 1; exclusive = bit_at w 63 == 1 }

-- the number in the count's field of a word
abbrev pub count_field : ℕ → ℕ
count_field w = w / 2 ^ MASK_BITS % 2 ^ 6

-- the number is the word of the fields that are read from it: its count is that of its mask, and it has 64 bits
abbrev pub IsOccupancyWord : ℕ → Type 0
IsOccupancyWord w = occupancy_word (occupancy_of w) ≡ w

-- an open core with no index occupied
unfoldable pub vacant : Occupancy
vacant = record { occupied = replicate MASK_BITS false; closed = false; exclusive = false }

-- index i is free in the old word and occupied in the new one, the count is one more, and no other field has changed
pub record HasOneMore (old i new : ℕ) : Type 0 where
  pub old_word : IsOccupancyWord old
  pub new_word : IsOccupancyWord new
  pub was_free : slice_index_or (occupancy_of old).occupied i false ≡ false
  pub occupied : (occupancy_of new).occupied ≡ slice_set (occupancy_of old).occupied i true
  pub count : count_field new ≡ count_field old + 1
  pub closed : (occupancy_of new).closed ≡ (occupancy_of old).closed
  pub exclusive : (occupancy_of new).exclusive ≡ (occupancy_of old).exclusive
