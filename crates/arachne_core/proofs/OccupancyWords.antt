-- Occupancy words: packing what was read, reading what was packed, and one index more or less.
use Rattle.std.proofs.Common.{◌≡◌, ℕ, zero, suc, ◌+◌, ◌-◌, ◌*◌, ◌/◌, ◌%◌, ◌^◌, ◌<◌, ◌≤◌, Bool, true, false, eqb, not, List, [], ◌∷◌, length, get_or, set, replicate, ◌↔◌, inl, inr, refl, sym, ap, ◌∙◌, subst, arith}
use Rattle.std.specs.Int.{bit_at, w64, trailing_ones, from_bool, RustNames.{count_ones, bit_and, bit_or}}
use Rattle.std.{specs.Int.Count.{ones_step, ones-ones}, proofs.lemmas.Bool.{cases_eq, true≢false, eq-eqb, ne_eqb}}
use Rattle.std.proofs.lemmas.Nat.Bits.{bit_at_lowest, bit_at-suc, bit_at_or, bit_at-pow_same, bit_at-pow_other, bit_at-lt, same_from_bits, and_pow, bit_at-zero, bit_at-trailing_ones}
use Rattle.std.proofs.lemmas.Nat.{mod-pow-add, or_disjoint, and-not, and_comm, and_mask, pow_pos, pow_below, one_shl}
use Rattle.std.proofs.{lemmas.List.{set-get_or, set-set, length-set, get_or-set_same}, Math.Nat.{pow-suc, mul_comm}}
use Rattle.arachne_core.specs.declared.layout.TheConstants.{MASK_BITS}
use Rattle.arachne_core.specs.Occupancy.{Occupancy, bit, mask_of, count_of, occupancy_word, flags, occupancy_of, count_field, IsOccupancyWord, vacant, HasOneMore}

pub bit-le : (b : Bool) → bit b ≤ 1
bit-le true = omega arith
bit-le false = omega arith

pub bit-eqb : (n : ℕ) → n < 2 → bit (eqb n 1) ≡ n
bit-eqb n h = elim (cases_eq n 1) [
  | inl e ↦ ap bit (eq-eqb n 1 e) ∙ sym e
  | inr m ↦ ap bit (ne_eqb n 1 m) ∙ omega arith
]

pub eqb-bit : (b : Bool) → eqb (bit b) 1 ≡ b
eqb-bit true = refl
eqb-bit false = refl

-- ---- flags and masks

pub length-flags : (n w : ℕ) → length (flags n w) ≡ n
unfolding flags
length-flags zero w = refl
length-flags (suc n) w = ap suc (length-flags n (w / 2))

-- the low bits of a number, the lowest apart
mod_halves : (n w : ℕ) → w % 2 ^ suc n ≡ w % 2 + 2 * (w / 2 % 2 ^ n)
mod_halves n w = ap (λ k. w % 2 ^ k) (omega arith) ∙ mod-pow-add w n 1 ∙ omega arith

pub mask_of-flags : (n w : ℕ) → mask_of (flags n w) ≡ w % 2 ^ n
unfolding flags
mask_of-flags zero w = omega arith
mask_of-flags (suc n) w = omega (arith, bit-eqb (w % 2) (omega arith), mask_of-flags n (w / 2), mod_halves n w)

pub get_or-flags : (n w i : ℕ) → i < n → get_or (flags n w) i false ≡ eqb (bit_at w i) 1
unfolding flags
get_or-flags zero w i h = absurd (omega (arith, h))
get_or-flags (suc n) w zero h = ap (λ k. eqb k 1) (sym (bit_at_lowest w))
get_or-flags (suc n) w (suc i) h = get_or-flags n (w / 2) i (omega arith) ∙ ap (λ k. eqb k 1) (sym (bit_at-suc w i))

pub mask_of-lt : (bs : List Bool) → mask_of bs < 2 ^ length bs
mask_of-lt [] = omega arith
mask_of-lt (b ∷ bs) = omega (arith, bit-le b, mask_of-lt bs, pow-suc 2 (length bs))

pub count_of-le : (bs : List Bool) → count_of bs ≤ length bs
count_of-le [] = omega arith
count_of-le (b ∷ bs) = omega (arith, bit-le b, count_of-le bs)

-- the flags of a number whose low bits are a mask
pub flags-mask_of : (bs : List Bool) (k : ℕ) → flags (length bs) (mask_of bs + 2 ^ length bs * k) ≡ bs
unfolding flags
flags-mask_of [] k = refl
flags-mask_of (b ∷ bs) k =
    let whole : bit b + 2 * mask_of bs + 2 ^ suc (length bs) * k ≡ bit b + 2 * (mask_of bs + 2 ^ length bs * k) =
    ap (λ m. bit b + 2 * mask_of bs + m * k) (pow-suc 2 (length bs)) ∙ grind arith in
    let low : (bit b + 2 * mask_of bs + 2 ^ suc (length bs) * k) % 2 ≡ bit b = omega (arith, whole, bit-le b) in
    let high : (bit b + 2 * mask_of bs + 2 ^ suc (length bs) * k) / 2 ≡ mask_of bs + 2 ^ length bs * k = omega (arith, whole, bit-le b) in
    λ i. (ap (λ m. eqb m 1) low ∙ eqb-bit b) i ∷ (ap (flags (length bs)) high ∙ flags-mask_of bs k) i

pub ones-mask_of : (bs : List Bool) → count_ones (mask_of bs) ≡ count_of bs
ones-mask_of [] = ones-ones 0
ones-mask_of (b ∷ bs) =
    let low : (bit b + 2 * mask_of bs) % 2 ≡ bit b = omega (arith, bit-le b) in
    let high : (bit b + 2 * mask_of bs) / 2 ≡ mask_of bs = omega (arith, bit-le b) in
    ones_step (bit b + 2 * mask_of bs) ∙ ap (λ m. m + count_ones ((bit b + 2 * mask_of bs) / 2)) low
    ∙ ap (λ m. bit b + count_ones m) high ∙ ap (λ m. bit b + m) (ones-mask_of bs)

-- one flag more
pub mask_of-set : (bs : List Bool) (i : ℕ) → i < length bs → get_or bs i false ≡ false → mask_of (set bs i true) ≡ mask_of bs + 2 ^ i
mask_of-set [] i h e = absurd (omega (arith, h))
mask_of-set (b ∷ bs) zero h e = omega (arith, ap bit e)
mask_of-set (b ∷ bs) (suc i) h e = omega (arith, mask_of-set bs i (omega arith) e, pow-suc 2 i)

pub count_of-set : (bs : List Bool) (i : ℕ) → i < length bs → get_or bs i false ≡ false → count_of (set bs i true) ≡ count_of bs + 1
count_of-set [] i h e = absurd (omega (arith, h))
count_of-set (b ∷ bs) zero h e = omega (arith, ap bit e)
count_of-set (b ∷ bs) (suc i) h e = omega (arith, count_of-set bs i (omega arith) e)

pub mask_of-clear : (bs : List Bool) (i : ℕ) → get_or bs i false ≡ true → mask_of (set bs i false) + 2 ^ i ≡ mask_of bs
mask_of-clear [] i e = absurd (true≢false (sym e))
mask_of-clear (b ∷ bs) zero e = omega (arith, ap bit e)
mask_of-clear (b ∷ bs) (suc i) e = omega (arith, mask_of-clear bs i e, pow-suc 2 i)

pub count_of-clear : (bs : List Bool) (i : ℕ) → get_or bs i false ≡ true → count_of (set bs i false) + 1 ≡ count_of bs
count_of-clear [] i e = absurd (true≢false (sym e))
count_of-clear (b ∷ bs) zero e = omega (arith, ap bit e)
count_of-clear (b ∷ bs) (suc i) e = omega (arith, count_of-clear bs i e)

-- a flag is a bit of the mask
pub get_or-mask_of : (bs : List Bool) (i : ℕ) → get_or bs i false ≡ eqb (bit_at (mask_of bs) i) 1
get_or-mask_of [] i = sym (ap (λ k. eqb k 1) (bit_at-zero i))
get_or-mask_of (b ∷ bs) zero =
    let low : (bit b + 2 * mask_of bs) % 2 ≡ bit b = omega (arith, bit-le b) in
    sym (eqb-bit b) ∙ ap (λ k. eqb k 1) (sym low ∙ sym (bit_at_lowest (bit b + 2 * mask_of bs)))
get_or-mask_of (b ∷ bs) (suc i) =
    let high : (bit b + 2 * mask_of bs) / 2 ≡ mask_of bs = omega (arith, bit-le b) in
    get_or-mask_of bs i ∙ ap (λ k. eqb k 1) (ap (λ m. bit_at m i) (sym high) ∙ sym (bit_at-suc (bit b + 2 * mask_of bs) i))

pub mask_of-zero : (bs : List Bool) → mask_of bs ≡ 0 → (i : ℕ) → get_or bs i false ≡ false
mask_of-zero bs e i = get_or-mask_of bs i ∙ ap (λ m. eqb (bit_at m i) 1) e ∙ ap (λ k. eqb k 1) (bit_at-zero i)

pub mask_of-none : (bs : List Bool) → ((i : ℕ) → i < length bs → get_or bs i false ≡ false) → mask_of bs ≡ 0
mask_of-none [] h = refl
mask_of-none (b ∷ bs) h = omega (arith, ap bit (h 0 (omega arith)), mask_of-none bs (λ i l. h (suc i) (omega arith)))

-- ---- the fields of a word

pub field_count : (m n : ℕ) (x y : Bool) → m < 2 ^ MASK_BITS → n < 2 ^ 6 → (m + 2 ^ MASK_BITS * n + 2 ^ 62 * bit x + 2 ^ 63 * bit y) / 2 ^ MASK_BITS % 2 ^ 6 ≡ n
field_count m n x y a b = omega (arith, bit-le x, bit-le y)

pub field_closed : (m n : ℕ) (x y : Bool) → m < 2 ^ MASK_BITS → n < 2 ^ 6 → (m + 2 ^ MASK_BITS * n + 2 ^ 62 * bit x + 2 ^ 63 * bit y) / 2 ^ 62 % 2 ≡ bit x
field_closed m n x y a b = omega (arith, bit-le x, bit-le y)

pub field_exclusive : (m n : ℕ) (x y : Bool) → m < 2 ^ MASK_BITS → n < 2 ^ 6 → (m + 2 ^ MASK_BITS * n + 2 ^ 62 * bit x + 2 ^ 63 * bit y) / 2 ^ 63 % 2 ≡ bit y
field_exclusive m n x y a b = omega (arith, bit-le x, bit-le y)

-- a core whose mask has a bit for each index
pub mask_in : (c : Occupancy) → length c.occupied ≡ MASK_BITS → mask_of c.occupied < 2 ^ MASK_BITS
mask_in c h = subst (λ n. mask_of c.occupied < 2 ^ n) h (mask_of-lt c.occupied)

pub count_in : (c : Occupancy) → length c.occupied ≡ MASK_BITS → count_of c.occupied < 2 ^ 6
count_in c h = omega (arith, count_of-le c.occupied, h)

pub occupancy_word-lt : (c : Occupancy) → length c.occupied ≡ MASK_BITS → occupancy_word c < 2 ^ 64
occupancy_word-lt c h = omega (arith, mask_in c h, count_in c h, bit-le c.closed, bit-le c.exclusive)

pub occupancy_of-occupancy_word : (c : Occupancy) → length c.occupied ≡ MASK_BITS → occupancy_of (occupancy_word c) ≡ c
occupancy_of-occupancy_word c h =
    let m = mask_in c h in
    let n = count_in c h in
    let rest : ℕ = count_of c.occupied + 2 ^ 6 * bit c.closed + 2 ^ 7 * bit c.exclusive in
    let whole : occupancy_word c ≡ mask_of c.occupied + 2 ^ MASK_BITS * rest = omega arith in
    let low : flags MASK_BITS (occupancy_word c) ≡ c.occupied =
    ap (flags MASK_BITS) whole ∙ subst (λ (k : ℕ). flags k (mask_of c.occupied + 2 ^ k * rest) ≡ c.occupied) h (flags-mask_of c.occupied rest) in
    let closed : eqb (bit_at (occupancy_word c) 62) 1 ≡ c.closed = ap (λ k. eqb k 1) (field_closed _ _ c.closed c.exclusive m n) ∙ eqb-bit c.closed in
    let exclusive : eqb (bit_at (occupancy_word c) 63) 1 ≡ c.exclusive = ap (λ k. eqb k 1) (field_exclusive _ _ c.closed c.exclusive m n) ∙ eqb-bit c.exclusive in
    λ i. record { occupied = low i; closed = closed i; exclusive = exclusive i }

-- the number is the word of this core
pub packs : (w : ℕ) (c : Occupancy) → length c.occupied ≡ MASK_BITS → w ≡ occupancy_word c → IsOccupancyWord w × (occupancy_of w ≡ c)
packs w c h e =
    let read : occupancy_of w ≡ c = ap occupancy_of e ∙ occupancy_of-occupancy_word c h in
    (ap occupancy_word read ∙ sym e, read)

-- the fields of a word that was read
pub read_mask : (w : ℕ) → IsOccupancyWord w → w % 2 ^ MASK_BITS ≡ mask_of (occupancy_of w).occupied
read_mask w h = sym (mask_of-flags MASK_BITS w)

pub read_count : (w : ℕ) → IsOccupancyWord w → w / 2 ^ MASK_BITS % 2 ^ 6 ≡ count_of (occupancy_of w).occupied
read_count w h =
    let c : Occupancy = occupancy_of w in
    let l : length c.occupied ≡ MASK_BITS = length-flags MASK_BITS w in
    ap (λ v. v / 2 ^ MASK_BITS % 2 ^ 6) (sym h) ∙ field_count _ _ c.closed c.exclusive (mask_in c l) (count_in c l)

-- a word whose count is that of its mask
pub counted : (w : ℕ) → w < 2 ^ 64 → count_ones (w % 2 ^ MASK_BITS) ≡ w / 2 ^ MASK_BITS % 2 ^ 6 → IsOccupancyWord w
counted w l e =
    let n : count_of (flags MASK_BITS w) ≡ w / 2 ^ MASK_BITS % 2 ^ 6 = sym (ones-mask_of (flags MASK_BITS w)) ∙ ap count_ones (mask_of-flags MASK_BITS w) ∙ e in
    omega (arith, n, mask_of-flags MASK_BITS w, bit-eqb (w / 2 ^ 62 % 2) (omega arith), bit-eqb (w / 2 ^ 63 % 2) (omega arith))

pub counts : (w : ℕ) → IsOccupancyWord w → count_ones (w % 2 ^ MASK_BITS) ≡ w / 2 ^ MASK_BITS % 2 ^ 6
counts w h = ap count_ones (sym (mask_of-flags MASK_BITS w)) ∙ ones-mask_of (flags MASK_BITS w) ∙ sym (read_count w h)

-- ---- one index more, one less, one flag set or cleared

pub one_more : (c : Occupancy) (i : ℕ) → i < length c.occupied → get_or c.occupied i false ≡ false
    → occupancy_word (record c { occupied = set c.occupied i true }) ≡ occupancy_word c + (2 ^ i + 2 ^ MASK_BITS)
one_more c i h e = omega (arith, mask_of-set c.occupied i h e, count_of-set c.occupied i h e)

pub one_less : (c : Occupancy) (i : ℕ) → get_or c.occupied i false ≡ true
    → occupancy_word (record c { occupied = set c.occupied i false }) + (2 ^ i + 2 ^ MASK_BITS) ≡ occupancy_word c
one_less c i e = omega (arith, mask_of-clear c.occupied i e, count_of-clear c.occupied i e)

pub same_flag : (bs : List Bool) (i : ℕ) (b : Bool) → get_or bs i false ≡ b → set bs i b ≡ bs
same_flag bs i b e = ap (set bs i) (sym e) ∙ set-get_or bs i false

-- a test of one bit
pub bit_test : (w k : ℕ) → not (eqb (bit_and w (2 ^ k)) 0) ≡ eqb (bit_at w k) 1
bit_test w k = elim (cases_eq (bit_at w k) 0) [
  | inl e ↦
      let z : bit_and w (2 ^ k) ≡ 0 = omega (arith, and_pow w k, ap (λ b. b * 2 ^ k) e) in
      ap not (eq-eqb (bit_and w (2 ^ k)) 0 z) ∙ sym (ne_eqb (bit_at w k) 1 (λ f. omega (arith, e, f)))
  | inr n ↦
      let one : bit_at w k ≡ 1 = omega (arith, bit_at-lt w k) in
      let p : bit_and w (2 ^ k) ≡ 2 ^ k = omega (arith, and_pow w k, ap (λ b. b * 2 ^ k) one) in
      ap not (ne_eqb (bit_and w (2 ^ k)) 0 (λ f. omega (arith, pow_pos k, p, f))) ∙ sym (eq-eqb (bit_at w k) 1 one)
]

pub or_bit : (w k : ℕ) → bit_or w (2 ^ k) ≡ w + 2 ^ k * (1 - bit_at w k)
or_bit w k = elim (cases_eq (bit_at w k) 0) [
  | inl e ↦
      let z : bit_and w (2 ^ k) ≡ 0 = omega (arith, and_pow w k, ap (λ b. b * 2 ^ k) e) in
      or_disjoint w (2 ^ k) z ∙ omega (arith, ap (λ b. 2 ^ k * (1 - b)) e)
  | inr n ↦
      let one : bit_at w k ≡ 1 = omega (arith, bit_at-lt w k) in
      let same : bit_or w (2 ^ k) ≡ w = same_from_bits (bit_or w (2 ^ k)) w (λ i. bit_at_or w (2 ^ k) i ∙ elim (cases_eq i k) [
        | inl e ↦ omega (arith, ap (bit_at w) e, one, ap (bit_at (2 ^ k)) e, bit_at-pow_same k)
        | inr m ↦ omega (arith, bit_at-pow_other k i m)
      ]) in
      same ∙ omega (arith, ap (λ b. 2 ^ k * (1 - b)) one)
]

pub and_not_bit : (w k : ℕ) → k < 64 → w < 2 ^ 64 → bit_and w (2 ^ 64 - 1 - 2 ^ k) + 2 ^ k * bit_at w k ≡ w
and_not_bit w k h l = omega (arith, and-not 64 (2 ^ k) w (pow_below k 64 h) l, and_comm w (2 ^ 64 - 1 - 2 ^ k), and_comm w (2 ^ k), and_pow w k, mul_comm (2 ^ k) (bit_at w k))

-- ---- what each call makes of a word

pub occupancy_word-of : (w : ℕ) → IsOccupancyWord w → w < 2 ^ 64
occupancy_word-of w h = omega (arith, occupancy_word-lt (occupancy_of w) (length-flags MASK_BITS w), h)

has_all : (w : ℕ) (c : Occupancy) → occupancy_of w ≡ c → length c.occupied ≡ MASK_BITS
has_all w c e = ap (λ (o : Occupancy). length o.occupied) (sym e) ∙ length-flags MASK_BITS w

-- index i is occupied now; k is i, as the shift has it
pub adding : (w i k : ℕ) (c : Occupancy) → IsOccupancyWord w → occupancy_of w ≡ c → k ≡ i → i < MASK_BITS → get_or c.occupied i false ≡ false
    → (w + (1 * 2 ^ k % 2 ^ 64 + 2 ^ MASK_BITS) < 2 ^ 64) × IsOccupancyWord (w + (1 * 2 ^ k % 2 ^ 64 + 2 ^ MASK_BITS))
    × (occupancy_of (w + (1 * 2 ^ k % 2 ^ 64 + 2 ^ MASK_BITS)) ≡ record c { occupied = set c.occupied i true })
adding w i k c h e s i_in free =
    let all : length c.occupied ≡ MASK_BITS = has_all w c e in
    let d : Occupancy = record c { occupied = set c.occupied i true } in
    let d_all : length d.occupied ≡ MASK_BITS = length-set c.occupied i true ∙ all in
    let shift : 1 * 2 ^ k % 2 ^ 64 ≡ 2 ^ i = one_shl k 64 (omega arith) ∙ ap (λ (j : ℕ). 2 ^ j) s in
    let is_word : occupancy_word c ≡ w = ap occupancy_word (sym e) ∙ h in
    let now : w + (1 * 2 ^ k % 2 ^ 64 + 2 ^ MASK_BITS) ≡ occupancy_word d = omega (arith, shift, is_word, one_more c i (omega arith) free) in
    let p = packs _ d d_all now in
    (omega (arith, occupancy_word-lt d d_all, now), p.0, p.1)

-- index i is free now
pub removing : (w i k : ℕ) (c : Occupancy) → IsOccupancyWord w → occupancy_of w ≡ c → k ≡ i → i < MASK_BITS → get_or c.occupied i false ≡ true
    → (1 * 2 ^ k % 2 ^ 64 + 2 ^ MASK_BITS ≤ w) × IsOccupancyWord (w - (1 * 2 ^ k % 2 ^ 64 + 2 ^ MASK_BITS))
    × (occupancy_of (w - (1 * 2 ^ k % 2 ^ 64 + 2 ^ MASK_BITS)) ≡ record c { occupied = set c.occupied i false })
removing w i k c h e s i_in taken =
    let all : length c.occupied ≡ MASK_BITS = has_all w c e in
    let d : Occupancy = record c { occupied = set c.occupied i false } in
    let d_all : length d.occupied ≡ MASK_BITS = length-set c.occupied i false ∙ all in
    let shift : 1 * 2 ^ k % 2 ^ 64 ≡ 2 ^ i = one_shl k 64 (omega arith) ∙ ap (λ (j : ℕ). 2 ^ j) s in
    let is_word : occupancy_word c ≡ w = ap occupancy_word (sym e) ∙ h in
    let before : occupancy_word d + (2 ^ i + 2 ^ MASK_BITS) ≡ occupancy_word c = one_less c i taken in
    let now : w - (1 * 2 ^ k % 2 ^ 64 + 2 ^ MASK_BITS) ≡ occupancy_word d = omega (arith, shift, is_word, before) in
    let p = packs _ d d_all now in
    (omega (arith, shift, is_word, before), p.0, p.1)

-- bit 62 or bit 63 is set or cleared
flag_bit : (b : Bool) (w k : ℕ) → eqb (bit_at w k) 1 ≡ b → bit_at w k ≡ bit b
flag_bit b w k e = sym (bit-eqb (bit_at w k) (bit_at-lt w k)) ∙ ap bit e

pub set_closed : (w : ℕ) (c : Occupancy) → IsOccupancyWord w → occupancy_of w ≡ c
    → IsOccupancyWord (bit_or w (2 ^ 62)) × (occupancy_of (bit_or w (2 ^ 62)) ≡ record c { closed = true })
set_closed w c h e =
    let d : Occupancy = record c { closed = true } in
    let is_word : occupancy_word c ≡ w = ap occupancy_word (sym e) ∙ h in
    packs _ d (has_all w c e) (omega (arith, or_bit w 62, is_word, flag_bit c.closed w 62 (ap (λ (o : Occupancy). o.closed) e), bit-le c.closed))

pub clear_closed : (w : ℕ) (c : Occupancy) → IsOccupancyWord w → occupancy_of w ≡ c
    → IsOccupancyWord (bit_and w (2 ^ 64 - 1 - 2 ^ 62)) × (occupancy_of (bit_and w (2 ^ 64 - 1 - 2 ^ 62)) ≡ record c { closed = false })
clear_closed w c h e =
    let d : Occupancy = record c { closed = false } in
    let is_word : occupancy_word c ≡ w = ap occupancy_word (sym e) ∙ h in
    packs _ d (has_all w c e) (omega (arith, and_not_bit w 62 (omega arith) (occupancy_word-of w h), is_word, flag_bit c.closed w 62 (ap (λ (o : Occupancy). o.closed) e), bit-le c.closed))

pub set_exclusive : (w : ℕ) (c : Occupancy) → IsOccupancyWord w → occupancy_of w ≡ c
    → IsOccupancyWord (bit_or w (2 ^ 63)) × (occupancy_of (bit_or w (2 ^ 63)) ≡ record c { exclusive = true })
set_exclusive w c h e =
    let d : Occupancy = record c { exclusive = true } in
    let is_word : occupancy_word c ≡ w = ap occupancy_word (sym e) ∙ h in
    packs _ d (has_all w c e) (omega (arith, or_bit w 63, is_word, flag_bit c.exclusive w 63 (ap (λ (o : Occupancy). o.exclusive) e), bit-le c.exclusive))

pub clear_exclusive : (w : ℕ) (c : Occupancy) → IsOccupancyWord w → occupancy_of w ≡ c
    → IsOccupancyWord (bit_and w (2 ^ 64 - 1 - 2 ^ 63)) × (occupancy_of (bit_and w (2 ^ 64 - 1 - 2 ^ 63)) ≡ record c { exclusive = false })
clear_exclusive w c h e =
    let d : Occupancy = record c { exclusive = false } in
    let is_word : occupancy_word c ≡ w = ap occupancy_word (sym e) ∙ h in
    packs _ d (has_all w c e) (omega (arith, and_not_bit w 63 (omega arith) (occupancy_word-of w h), is_word, flag_bit c.exclusive w 63 (ap (λ (o : Occupancy). o.exclusive) e), bit-le c.exclusive))

-- the place of the lowest bit that isn't set
pub lowest : (w t : ℕ) → t ≡ trailing_ones w64 (bit_and w (2 ^ MASK_BITS - 1))
    → (get_or (flags MASK_BITS w) t false ≡ false) × ((i : ℕ) → i < t → get_or (flags MASK_BITS w) i false ≡ true)
lowest w t e =
    let mask : bit_and w (2 ^ MASK_BITS - 1) ≡ mask_of (flags MASK_BITS w) = and_mask w MASK_BITS ∙ sym (mask_of-flags MASK_BITS w) in
    let few : mask_of (flags MASK_BITS w) < 2 ^ MASK_BITS = subst (λ (n : ℕ). mask_of (flags MASK_BITS w) < 2 ^ n) (length-flags MASK_BITS w) (mask_of-lt (flags MASK_BITS w)) in
    let p = bit_at-trailing_ones w64 (mask_of (flags MASK_BITS w)) (omega (arith, few)) in
    let f : t ≡ trailing_ones w64 (mask_of (flags MASK_BITS w)) = e ∙ ap (trailing_ones w64) mask in (
      get_or-mask_of (flags MASK_BITS w) t ∙ ap (λ (j : ℕ). eqb (bit_at (mask_of (flags MASK_BITS w)) j) 1) f ∙ ap (λ (n : ℕ). eqb n 1) p.1,
      λ i h. get_or-mask_of (flags MASK_BITS w) i ∙ ap (λ (n : ℕ). eqb n 1) (p.2 i (omega (arith, h, f))),
    )

pub vacant-length : length vacant.occupied ≡ MASK_BITS
unfolding vacant
vacant-length = refl

pub packs_vacant : IsOccupancyWord 0 × (occupancy_of 0 ≡ vacant)
unfolding vacant
packs_vacant = packs 0 vacant refl refl

pub vacant-flag : (i : ℕ) → get_or vacant.occupied i false ≡ false
unfolding vacant
vacant-flag i = mask_of-zero (replicate MASK_BITS false) refl i

pub vacant-open : (vacant.closed ≡ false) × (vacant.exclusive ≡ false)
unfolding vacant
vacant-open = (refl, refl)

-- the word that new makes
pub packing : (m n x y : ℕ) (a b : Bool) → m < 2 ^ MASK_BITS → n ≡ count_ones m → x ≡ bit a → y ≡ bit b
    → (m + n * 2 ^ MASK_BITS + x * 2 ^ 62 + y * 2 ^ 63 < 2 ^ 64) × IsOccupancyWord (m + n * 2 ^ MASK_BITS + x * 2 ^ 62 + y * 2 ^ 63)
    × (occupancy_of (m + n * 2 ^ MASK_BITS + x * 2 ^ 62 + y * 2 ^ 63) ≡ record { occupied = flags MASK_BITS m; closed = a; exclusive = b })
packing m n x y a b m_in e f g =
    let d : Occupancy = record { occupied = flags MASK_BITS m; closed = a; exclusive = b } in
    let all : length d.occupied ≡ MASK_BITS = length-flags MASK_BITS m in
    let mask : mask_of (flags MASK_BITS m) ≡ m = mask_of-flags MASK_BITS m ∙ omega arith in
    let count : count_of (flags MASK_BITS m) ≡ n = sym (ones-mask_of (flags MASK_BITS m)) ∙ ap count_ones mask ∙ sym e in
    let now : m + n * 2 ^ MASK_BITS + x * 2 ^ 62 + y * 2 ^ 63 ≡ occupancy_word d = omega (arith, mask, count, f, g) in
    let p = packs _ d all now in
    (omega (arith, occupancy_word-lt d all, now), p.0, p.1)

pub from_bool-bit : (b : Bool) → from_bool b ≡ bit b
from_bool-bit true = refl
from_bool-bit false = refl

-- ---- the laws of one index, over words

pub has_one_more : (w i : ℕ) → IsOccupancyWord w → i < MASK_BITS → get_or (occupancy_of w).occupied i false ≡ false → HasOneMore w i (w + (2 ^ i + 2 ^ MASK_BITS))
has_one_more w i h i_in free =
    let c : Occupancy = occupancy_of w in
    let shift : 1 * 2 ^ i % 2 ^ 64 ≡ 2 ^ i = one_shl i 64 (omega arith) in
    let a = adding w i i c h refl refl i_in free in
    let word : IsOccupancyWord (w + (2 ^ i + 2 ^ MASK_BITS)) = subst (λ (n : ℕ). IsOccupancyWord (w + (n + 2 ^ MASK_BITS))) shift a.1 in
    let read : occupancy_of (w + (2 ^ i + 2 ^ MASK_BITS)) ≡ record c { occupied = set c.occupied i true } =
    subst (λ (n : ℕ). occupancy_of (w + (n + 2 ^ MASK_BITS)) ≡ record c { occupied = set c.occupied i true }) shift a.2 in
    record {
      old_word = h;
      new_word = word;
      was_free = free;
      occupied = ap (λ (o : Occupancy). o.occupied) read;
      count = read_count _ word ∙ ap (λ (o : Occupancy). count_of o.occupied) read ∙ count_of-set c.occupied i (omega (arith, length-flags MASK_BITS w)) free
          ∙ ap (λ (n : ℕ). n + 1) (sym (read_count w h));
      closed = ap (λ (o : Occupancy). o.closed) read;
      exclusive = ap (λ (o : Occupancy). o.exclusive) read;
    }

pub has_one_less : (w i : ℕ) → IsOccupancyWord w → i < MASK_BITS → get_or (occupancy_of w).occupied i false ≡ true → HasOneMore (w - (2 ^ i + 2 ^ MASK_BITS)) i w
has_one_less w i h i_in taken =
    let c : Occupancy = occupancy_of w in
    let d : Occupancy = record c { occupied = set c.occupied i false } in
    let shift : 1 * 2 ^ i % 2 ^ 64 ≡ 2 ^ i = one_shl i 64 (omega arith) in
    let a = removing w i i c h refl refl i_in taken in
    let word : IsOccupancyWord (w - (2 ^ i + 2 ^ MASK_BITS)) = subst (λ (n : ℕ). IsOccupancyWord (w - (n + 2 ^ MASK_BITS))) shift a.1 in
    let read : occupancy_of (w - (2 ^ i + 2 ^ MASK_BITS)) ≡ d =
    subst (λ (n : ℕ). occupancy_of (w - (n + 2 ^ MASK_BITS)) ≡ d) shift a.2 in
    let free : get_or d.occupied i false ≡ false = get_or-set_same c.occupied i false false (omega (arith, length-flags MASK_BITS w)) in
    record {
      old_word = word;
      new_word = h;
      was_free = ap (λ (o : Occupancy). get_or o.occupied i false) read ∙ free;
      occupied = sym (ap (λ (o : Occupancy). set o.occupied i true) read ∙ set-set c.occupied i false true ∙ same_flag c.occupied i true taken);
      count = read_count w h ∙ sym (ap (λ (o : Occupancy). count_of o.occupied + 1) read ∙ count_of-clear c.occupied i taken)
          ∙ ap (λ (n : ℕ). n + 1) (sym (read_count _ word));
      closed = sym (ap (λ (o : Occupancy). o.closed) read);
      exclusive = sym (ap (λ (o : Occupancy). o.exclusive) read);
    }

pub closing : (w : ℕ) → IsOccupancyWord w → IsOccupancyWord (bit_or w (2 ^ 62)) × (occupancy_of (bit_or w (2 ^ 62)) ≡ record (occupancy_of w) { closed = true })
closing w h = set_closed w (occupancy_of w) h refl

pub opening : (w : ℕ) → IsOccupancyWord w → IsOccupancyWord (bit_and w (2 ^ 64 - 1 - 2 ^ 62)) × (occupancy_of (bit_and w (2 ^ 64 - 1 - 2 ^ 62)) ≡ record (occupancy_of w) { closed = false })
opening w h = clear_closed w (occupancy_of w) h refl

pub not_exclusive : (w : ℕ) → IsOccupancyWord w → (occupancy_of w).exclusive ≡ true
    → IsOccupancyWord (w - 2 ^ 63) × (occupancy_of (w - 2 ^ 63) ≡ record (occupancy_of w) { exclusive = false })
not_exclusive w h e =
    let d : Occupancy = record (occupancy_of w) { exclusive = false } in
    packs (w - 2 ^ 63) d (length-flags MASK_BITS w) (omega (arith, h, ap bit e))

pub now_exclusive : (w : ℕ) → IsOccupancyWord w → (occupancy_of w).exclusive ≡ false
    → IsOccupancyWord (w + 2 ^ 63) × (occupancy_of (w + 2 ^ 63) ≡ record (occupancy_of w) { exclusive = true })
now_exclusive w h e =
    let d : Occupancy = record (occupancy_of w) { exclusive = true } in
    packs (w + 2 ^ 63) d (length-flags MASK_BITS w) (omega (arith, h, ap bit e))

-- the count of a word is that of its mask
pub word_has_its_count : (w : ℕ) → IsOccupancyWord w ↔ ((w < 2 ^ 64) × (count_field w ≡ count_of (occupancy_of w).occupied))
word_has_its_count w = (
  λ h. (occupancy_word-of w h, read_count w h),
  λ h. omega (arith, h.1, mask_of-flags MASK_BITS w, bit-eqb (w / 2 ^ 62 % 2) (omega arith), bit-eqb (w / 2 ^ 63 % 2) (omega arith), h.0),
)
