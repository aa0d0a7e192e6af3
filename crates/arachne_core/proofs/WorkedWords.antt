-- The definitions of the words, computed on worked values. No other proof rests on these.
use Rattle.std.proofs.Common.{◌≡◌, ℕ, ◌+◌, ◌-◌, ◌*◌, ◌^◌, Bool, true, false, List, [], ◌∷◌, get_or, refl, arith}
use Rattle.arachne_core.specs.declared.mark.Mark.{Mark, TheVariants.{Free, Ready, Blocked, Held, Woken, Spent}}
use Rattle.arachne_core.specs.{declared.place.Place.Place, Place.{first_place, number_of}}
use Rattle.arachne_core.specs.Occupancy.{mask_of, count_of, occupancy_word, flags, occupancy_of, count_field, IsOccupancyWord, vacant}
use Rattle.arachne_core.specs.Marked.{Marked, mark_code, mark_word, marked_of, IsMarkWord, FitsWord, with_mark, with_place}

-- ---- mark words

abbrev fifth : Place
fifth = record { core = 2; index = 5 }

abbrev corner : Place
corner = record { core = 15; index = 55 }

abbrev marked_at : Mark → Bool → Place → ℕ → Marked
marked_at mark alone place generation = record { mark = mark; alone = alone; place = place; generation = generation }

-- 0x4851, in both directions
ready : mark_word 4 (marked_at Ready false fifth 1) ≡ 18513
ready = refl

ready_read : marked_of 4 18513 ≡ marked_at Ready false fifth 1
ready_read = refl

-- the same with 6 bits for the core: 0x10851, and the last core of 64: 0xff71
ready_wide : mark_word 6 (marked_at Ready false fifth 1) ≡ 67665
ready_wide = refl

last_core_wide : mark_word 6 (marked_at Ready false (record { core = 63; index = 55 }) 0) ≡ 65393
last_core_wide = refl

codes : (mark_code Free ≡ 0) × (mark_code Ready ≡ 1) × (mark_code Blocked ≡ 2) × (mark_code Held ≡ 3) × (mark_code Woken ≡ 4) × (mark_code Spent ≡ 5)
codes = (refl, refl, refl, refl, refl, refl)

-- each field at its greatest: 0xffffffffffffff7d, of which all bits are set but those of a mark above 5 and an index
-- above 55
greatest : mark_word 4 (marked_at Spent true corner (2 ^ 50 - 1)) ≡ 2 ^ 64 - 131
greatest = refl

greatest_read : marked_of 4 (2 ^ 64 - 131) ≡ marked_at Spent true corner (2 ^ 50 - 1)
greatest_read = refl

another_mark : with_mark 18513 Spent ≡ 18517
another_mark = refl

another_place : with_place 4 18513 corner ≡ 32625
another_place = refl

-- a mark of 6 or 7, and an index of 56
no_sixth_mark : ¬ IsMarkWord 4 6
no_sixth_mark h = omega (arith, h.0)

no_index_56 : ¬ IsMarkWord 4 (2 ^ 4 * 56)
no_index_56 h = omega (arith, h.1)

-- fields that are too large for a word
no_room_for_index_56 : ¬ FitsWord 4 (marked_at Free false (record { core = 0; index = 56 }) 0)
no_room_for_index_56 h = omega (arith, h.0)

no_room_for_core_16 : ¬ FitsWord 4 (marked_at Free false (record { core = 16; index = 0 }) 0)
no_room_for_core_16 h = omega (arith, h.1)

no_room_for_a_51st_bit : ¬ FitsWord 4 (marked_at Free false fifth (2 ^ 50))
no_room_for_a_51st_bit h = omega (arith, h.2)

-- ---- occupancy words

abbrev first_and_third : List Bool
first_and_third = true ∷ false ∷ true ∷ []

masked : mask_of first_and_third ≡ 5
masked = refl

counted : count_of first_and_third ≡ 2
counted = refl

-- 0x0200000000000005, closed, exclusive, and both
open_word : occupancy_word (record { occupied = first_and_third; closed = false; exclusive = false }) ≡ 2 * 2 ^ 56 + 5
open_word = refl

closed_word : occupancy_word (record { occupied = first_and_third; closed = true; exclusive = false }) ≡ 2 ^ 62 + 2 * 2 ^ 56 + 5
closed_word = refl

exclusive_word : occupancy_word (record { occupied = true ∷ []; closed = false; exclusive = true }) ≡ 2 ^ 63 + 2 ^ 56 + 1
exclusive_word = refl

empty_word : occupancy_word vacant ≡ 0
unfolding vacant
empty_word = refl

-- the fields of a closed core's word, with index 55 occupied
last_index_read : get_or (occupancy_of (2 ^ 62 + 2 ^ 56 + 2 ^ 55)).occupied 55 false ≡ true
unfolding flags
last_index_read = refl

closed_read : (occupancy_of (2 ^ 62 + 2 ^ 56 + 2 ^ 55)).closed ≡ true
closed_read = refl

not_exclusive_read : (occupancy_of (2 ^ 62 + 2 ^ 56 + 2 ^ 55)).exclusive ≡ false
not_exclusive_read = refl

count_of_full : count_field (2 ^ 62 + 56 * 2 ^ 56 + (2 ^ 56 - 1)) ≡ 56
count_of_full = refl

-- a count of two with three indexes
miscounted : ¬ IsOccupancyWord (2 * 2 ^ 56 + 7)
unfolding flags
miscounted h = omega (arith, h)

-- ---- places

last_place : first_place 56 895 ≡ corner
last_place = refl

last_number : number_of 56 corner ≡ 895
last_number = refl

-- with three places a core
fourth_of_three : first_place 3 4 ≡ record { core = 1; index = 1 }
fourth_of_three = refl
