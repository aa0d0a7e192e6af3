-- Mark words: packing what was read, reading what was packed, and another mark or place.
use Rattle.std.proofs.Common.{◌≡◌, ℕ, suc, ◌+◌, ◌*◌, ◌/◌, ◌%◌, ◌^◌, ◌<◌, ◌↔◌, eqb, refl, sym, ap, ◌∙◌, arith}
use Rattle.std.{specs.Int.bit_at, proofs.lemmas.Nat.{shr-shr, pow-add, mod_below, mod_low, shr_high, shr_split}}
use Rattle.std.proofs.Math.Nat.{mul_comm, mul_assoc, one-le-pow}
use Rattle.arachne_core.specs.Marked.{Marked, mark_code, mark_named, mark_word, marked_of, IsMarkWord, with_mark, with_place}
use Rattle.arachne_core.{proofs.OccupancyWords.{bit-le, bit-eqb, eqb-bit}, specs.declared.mark.Mark.TheVariants.Free}
use Rattle.arachne_core.specs.{declared.{layout.TheConstants.SLOTS, place.Place.Place, mark.Mark.Mark}, Occupancy.bit}

pub mark_code-lt : (m : Mark) → mark_code m < 6
mark_code-lt Free = omega arith
mark_code-lt _ = omega arith

pub mark_named-mark_code : (m : Mark) → mark_named (mark_code m) ≡ m
mark_named-mark_code Free = refl
mark_named-mark_code _ = refl

pub mark_code-mark_named : (n : ℕ) → n < 6 → mark_code (mark_named n) ≡ n
mark_code-mark_named (suc (suc (suc (suc (suc (suc n)))))) h = absurd (omega (arith, h))
mark_code-mark_named _ h = refl

-- the fields of a word whose mark and `alone` bit are `low`
pub fields : (b low i c g : ℕ) → low < 2 ^ 4 → i < 2 ^ 6 → c < 2 ^ b →
    ((low + 2 ^ 4 * i + 2 ^ 10 * c + 2 ^ (10 + b) * g) / 2 ^ 10 % 2 ^ b ≡ c)
    × ((low + 2 ^ 4 * i + 2 ^ 10 * c + 2 ^ (10 + b) * g) / 2 ^ 4 % 2 ^ 6 ≡ i)
    × ((low + 2 ^ 4 * i + 2 ^ 10 * c + 2 ^ (10 + b) * g) / 2 ^ (10 + b) ≡ g)
    × ((low + 2 ^ 4 * i + 2 ^ 10 * c + 2 ^ (10 + b) * g) % 2 ^ 3 ≡ low % 2 ^ 3)
    × ((low + 2 ^ 4 * i + 2 ^ 10 * c + 2 ^ (10 + b) * g) / 2 ^ 3 % 2 ≡ low / 2 ^ 3 % 2)
fields b low i c g low_in i_in c_in =
    let v : ℕ = low + 2 ^ 4 * i + 2 ^ 10 * c + 2 ^ (10 + b) * g in
    let h : ℕ = g * 2 ^ b + c in
    let top : 2 ^ (10 + b) * g ≡ 2 ^ 10 * (g * 2 ^ b) = ap (λ (n : ℕ). n * g) (pow-add 2 10 b) ∙ mul_assoc (2 ^ 10) (2 ^ b) g ∙ ap (λ (n : ℕ). 2 ^ 10 * n) (mul_comm (2 ^ b) g) in
    let whole : v ≡ low + 2 ^ 4 * i + 2 ^ 10 * h = omega (arith, top) in
    let high : v / 2 ^ 10 ≡ h = omega (arith, whole) in (
      ap (λ (n : ℕ). n % 2 ^ b) high ∙ mod_low g b c c_in,
      omega (arith, whole),
      sym (shr-shr v 10 b) ∙ ap (λ (n : ℕ). n / 2 ^ b) high ∙ shr_high g b c c_in,
      omega (arith, whole),
      omega (arith, whole),
    )

-- the lowest three bits of a packed word are its mark's code
code-mark_word : (b : ℕ) (m : Marked) → m.place.index < 2 ^ 6 → m.place.core < 2 ^ b → mark_word b m % 2 ^ 3 ≡ mark_code m.mark
code-mark_word b m i_in c_in =
    let f = fields b (mark_code m.mark + 2 ^ 3 * bit m.alone) m.place.index m.place.core m.generation (omega (arith, mark_code-lt m.mark, bit-le m.alone)) i_in c_in in
    omega (arith, f.3, mark_code-lt m.mark)

pub marked_of-mark_word : (b : ℕ) (m : Marked) → m.place.index < 2 ^ 6 → m.place.core < 2 ^ b → marked_of b (mark_word b m) ≡ m
marked_of-mark_word b m i_in c_in =
    let low : ℕ = mark_code m.mark + 2 ^ 3 * bit m.alone in
    let low_in : low < 2 ^ 4 = omega (arith, mark_code-lt m.mark, bit-le m.alone) in
    let f = fields b low m.place.index m.place.core m.generation low_in i_in c_in in
    let code = code-mark_word b m i_in c_in in
    let flag : mark_word b m / 2 ^ 3 % 2 ≡ bit m.alone = omega (arith, f.4, mark_code-lt m.mark, bit-le m.alone) in
    let mark : mark_named (mark_word b m % 2 ^ 3) ≡ m.mark = ap mark_named code ∙ mark_named-mark_code m.mark in
    let alone : eqb (bit_at (mark_word b m) 3) 1 ≡ m.alone = ap (λ (n : ℕ). eqb n 1) flag ∙ eqb-bit m.alone in
    λ i. record { mark = mark i; alone = alone i; place = record { core = f.0 i; index = f.1 i }; generation = f.2 i }

pub mark_word-marked_of : (b w : ℕ) → w % 2 ^ 3 < 6 → mark_word b (marked_of b w) ≡ w
mark_word-marked_of b w h =
    let code : mark_code (mark_named (w % 2 ^ 3)) ≡ w % 2 ^ 3 = mark_code-mark_named (w % 2 ^ 3) h in
    let flag : bit (eqb (bit_at w 3) 1) ≡ bit_at w 3 = bit-eqb (bit_at w 3) (omega arith) in
    let split : w / 2 ^ 10 / 2 ^ b * 2 ^ b + w / 2 ^ 10 % 2 ^ b ≡ w / 2 ^ 10 = shr_split (w / 2 ^ 10) b in
    let top : 2 ^ (10 + b) * (w / 2 ^ (10 + b)) ≡ 2 ^ 10 * (w / 2 ^ 10 / 2 ^ b * 2 ^ b) =
    ap (λ (n : ℕ). n * (w / 2 ^ (10 + b))) (pow-add 2 10 b) ∙ mul_assoc (2 ^ 10) (2 ^ b) (w / 2 ^ (10 + b))
    ∙ ap (λ (n : ℕ). 2 ^ 10 * n) (mul_comm (2 ^ b) (w / 2 ^ (10 + b)) ∙ ap (λ (n : ℕ). n * 2 ^ b) (sym (shr-shr w 10 b))) in
    omega (arith, code, flag, split, top)

-- a word of 64 bits is a mark word exactly if its mark is one of the six and its index one of a core's
pub is_mark_word : (b w : ℕ) → IsMarkWord b w ↔ ((w < 2 ^ 64) × (w % 2 ^ 3 < 6) × (w / 2 ^ 4 % 2 ^ 6 < SLOTS))
is_mark_word b w = (
  λ h.
      let m : Marked = marked_of b w in
      let code : mark_word b m % 2 ^ 3 ≡ mark_code m.mark = code-mark_word b m (omega arith) (mod_below (w / 2 ^ 10) (2 ^ b) (one-le-pow b 2 (omega arith))) in
      (h.2, omega (arith, code, ap (λ (n : ℕ). n % 2 ^ 3) h.0, mark_code-lt m.mark), h.1),
  λ h. (mark_word-marked_of b w h.1, h.2, h.0),
)

pub marking : (b w : ℕ) (m : Mark) → marked_of b (w / 2 ^ 3 * 2 ^ 3 + mark_code m) ≡ record (marked_of b w) { mark = m }
marking b w m =
    let v : ℕ = w / 2 ^ 3 * 2 ^ 3 + mark_code m in
    let code : v % 2 ^ 3 ≡ mark_code m = omega (arith, mark_code-lt m) in
    let rest : v / 2 ^ 3 ≡ w / 2 ^ 3 = omega (arith, mark_code-lt m) in
    let low : v / 2 ^ 4 ≡ w / 2 ^ 4 = omega (arith, mark_code-lt m) in
    let high : v / 2 ^ 10 ≡ w / 2 ^ 10 = omega (arith, mark_code-lt m) in
    let mark : mark_named (v % 2 ^ 3) ≡ m = ap mark_named code ∙ mark_named-mark_code m in
    let top : v / 2 ^ (10 + b) ≡ w / 2 ^ (10 + b) = sym (shr-shr v 10 b) ∙ ap (λ (n : ℕ). n / 2 ^ b) high ∙ shr-shr w 10 b in
    λ i. record { mark = mark i; alone = eqb (rest i % 2) 1; place = record { core = high i % 2 ^ b; index = low i % 2 ^ 6 }; generation = top i }

pub marked_of-with_mark : (b w : ℕ) (m : Mark) → marked_of b (with_mark w m) ≡ record (marked_of b w) { mark = m }
marked_of-with_mark b w m =
    let same : with_mark w m ≡ w / 2 ^ 3 * 2 ^ 3 + mark_code m = omega arith in
    ap (marked_of b) same ∙ marking b w m

pub marked_of-with_place : (b w : ℕ) (p : Place) → p.index < 2 ^ 6 → p.core < 2 ^ b → marked_of b (with_place b w p) ≡ record (marked_of b w) { place = p }
marked_of-with_place b w p i_in c_in =
    let v : ℕ = with_place b w p in
    let f = fields b (w % 2 ^ 4) p.index p.core (w / 2 ^ (10 + b)) (omega arith) i_in c_in in
    let code : v % 2 ^ 3 ≡ w % 2 ^ 3 = omega (arith, f.3) in
    let flag : v / 2 ^ 3 % 2 ≡ w / 2 ^ 3 % 2 = omega (arith, f.4) in
    λ i. record { mark = mark_named (code i); alone = eqb (flag i) 1; place = record { core = f.0 i; index = f.1 i }; generation = f.2 i }
