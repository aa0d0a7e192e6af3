-- The mark word of a context, and its fields. The core's number has b bits, and the bits above it are the generation.
use Rattle.std.specs.{Prelude.{◌≡◌, ℕ, ◌+◌, ◌-◌, ◌*◌, ◌/◌, ◌%◌, ◌^◌, ◌<◌, Bool, if◌then◌else◌, ◌==◌}, Int.bit_at}
use Rattle.arachne_core.specs.declared.mark.Mark.{Mark, TheVariants.{Free, Ready, Blocked, Held, Woken, Spent}}
use Rattle.arachne_core.specs.{declared.place.Place.Place, declared.layout.TheConstants.SLOTS, Occupancy.bit}

-- a context's mark, whether its core is exclusive to its thread, its place, and its generation
pub record Marked : Type 0 where
  pub mark : Mark
  pub alone : Bool
  pub place : Place
  pub generation : ℕ

abbrev pub mark_code : Mark → ℕ
mark_code Free = 0
mark_code Ready = 1
mark_code Blocked = 2
mark_code Held = 3
mark_code Woken = 4
mark_code Spent = 5

-- the mark of a code from 0 to 5
abbrev pub mark_named : ℕ → Mark
mark_named n = if n == 0 then Free else if n == 1 then Ready else if n == 2 then Blocked else if n == 3 then Held else if n == 4 then Woken else Spent

-- The mark word of these fields: the mark from bit 0, `alone` at bit 3, the index from bit 4, the core from bit 10, the
-- generation from bit 10 + b.
abbrev pub mark_word : ℕ → Marked → ℕ
mark_word b m = mark_code m.mark + 2 ^ 3 * bit m.alone + 2 ^ 4 * m.place.index + 2 ^ 10 * m.place.core + 2 ^ (10 + b) * m.generation

-- the fields of a word
abbrev pub marked_of : ℕ → ℕ → Marked
marked_of b w = record {
  mark = mark_named (w % 2 ^ 3);
  alone = bit_at w 3 == 1;
  place = record { core = w / 2 ^ 10 % 2 ^ b; index = w / 2 ^ 4 % 2 ^ 6 };
  generation = w / 2 ^ (10 + b);
}

-- the number is the word of the fields that are read from it, its index is one of a core's, and it has 64 bits
abbrev pub IsMarkWord : ℕ → ℕ → Type 0
IsMarkWord b w = (mark_word b (marked_of b w) ≡ w) × (w / 2 ^ 4 % 2 ^ 6 < SLOTS) × (w < 2 ^ 64)

-- there is a word of 64 bits for these fields
abbrev pub FitsWord : ℕ → Marked → Type 0
FitsWord b m = (m.place.index < SLOTS) × (m.place.core < 2 ^ b) × (m.generation < 2 ^ (54 - b))

-- the word with another mark
abbrev pub with_mark : ℕ → Mark → ℕ
with_mark w mark = w - w % 2 ^ 3 + mark_code mark

-- the word with another place
abbrev pub with_place : ℕ → ℕ → Place → ℕ
with_place b w p = w % 2 ^ 4 + 2 ^ 4 * p.index + 2 ^ 10 * p.core + 2 ^ (10 + b) * (w / 2 ^ (10 + b))
