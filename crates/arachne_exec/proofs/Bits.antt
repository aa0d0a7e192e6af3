-- Bits of a word, and how one word's change shows in the bits of places.
use Rattle.std.proofs.Common.{◌≡◌, ◌≢◌, ℕ, ◌+◌, ◌-◌, ◌*◌, ◌/◌, ◌%◌, ◌^◌, ◌<◌, ◌≤◌, min, List, length, get_or, set, if◌then◌else◌, sym, refl, ap, ◌∙◌, subst, arith, get_or-set_same, get_or-set_other, eq-eqb, ne_eqb}
use Rattle.std.specs.Int.{bit_at, w64, RustNames.{bit_and, bit_or}}
use Rattle.std.proofs.lemmas.Nat.{pow_below, and_le_l}
use Rattle.std.proofs.lemmas.Nat.Bits.{bit_at-lt, bit_at-zero, bit_at_and, bit_at_or, bit_at_not, bit_at-pow_same, bit_at-pow_other, same_from_bits_below}
use Rattle.std.proofs.lemmas.Grind.{get_or-set_at}
use mathlib.Core.Logic.{dite}
use native.Mathlib.Decide.{ℕ_discrete}
use Rattle.arachne_exec.specs.{Layout.{others, in_word}, Board.one}

pub one-same : (other place : ℕ) → other ≡ place → one other place ≡ 1
one-same other place e = ap (λ b. if b then 1 else 0) (eq-eqb other place e)

pub one-apart : (other place : ℕ) → other ≢ place → one other place ≡ 0
one-apart other place d = ap (λ b. if b then 1 else 0) (ne_eqb other place d)

pub same_bit : (i j : ℕ) → 2 ^ i ≡ 2 ^ j → i ≡ j
same_bit i j e = dite (ℕ_discrete i j) (λ s. s)
    (λ apart. let wrong : 1 ≡ 0 = sym (bit_at-pow_same i) ∙ ap (λ n. bit_at n i) e ∙ bit_at-pow_other j i apart in absurd (omega (arith, wrong)))

pub same_others : (i j : ℕ) → i < 64 → j < 64 → others i ≡ others j → i ≡ j
same_others i j a b e = same_bit i j (omega (arith, pow_below i 64 a, pow_below j 64 b, e))

module _ (n k : ℕ) (low : k < 64) where
  cleared_at : (i : ℕ) → i < 64 → bit_at (bit_and n (others k)) i ≡ min (bit_at n i) (1 - bit_at (2 ^ k) i)
  cleared_at i l = bit_at_and n (others k) i ∙ ap (λ d. min (bit_at n i) d) (bit_at_not w64 (2 ^ k) i (pow_below k 64 low) l)

  pub clear_same : bit_at (bit_and n (others k)) k ≡ 0
  clear_same = omega (arith, cleared_at k low, bit_at-pow_same k)

  pub clear_other : (i : ℕ) → i < 64 → i ≢ k → bit_at (bit_and n (others k)) i ≡ bit_at n i
  clear_other i l apart = omega (arith, cleared_at i l, bit_at-pow_other k i apart, bit_at-lt n i)

  pub clear_le : bit_and n (others k) ≤ n
  clear_le = and_le_l n (others k)

  -- a bit that isn't set is cleared for nothing
  pub unset : n < 2 ^ 64 → bit_at n k ≡ 0 → bit_and n (others k) ≡ n
  unset small none = same_from_bits_below 64 (bit_and n (others k)) n (omega (arith, clear_le, small)) small
      (λ i l. dite (ℕ_discrete i k)
      (λ e. subst (λ j. bit_at (bit_and n (others k)) j ≡ bit_at n j) (sym e) (clear_same ∙ sym none))
      (λ apart. clear_other i l apart))

pub set_same : (n k : ℕ) → bit_at (bit_or n (2 ^ k)) k ≡ 1
set_same n k = omega (arith, bit_at_or n (2 ^ k) k, bit_at-pow_same k, bit_at-lt n k)

pub set_other : (n k i : ℕ) → i ≢ k → bit_at (bit_or n (2 ^ k)) i ≡ bit_at n i
set_other n k i apart = omega (arith, bit_at_or n (2 ^ k) i, bit_at-pow_other k i apart)

-- a bit is 0 or 1
pub not_one : (n k : ℕ) → bit_at n k ≢ 1 → bit_at n k ≡ 0
not_one n k d = let below = bit_at-lt n k in let other : ¬ (bit_at n k ≡ 1) = d in omega (arith, below, other)

-- a word with a bit isn't 0
pub bit-some : (n k : ℕ) → bit_at n k ≡ 1 → 0 < n
bit-some n k e = dite (ℕ_discrete n 0)
    (λ z. let wrong : 0 ≡ 1 = sym (bit_at-zero k) ∙ ap (λ x. bit_at x k) (sym z) ∙ e in absurd (omega (arith, wrong)))
    (λ ne. let apart : ¬ (n ≡ 0) = ne in omega (arith, apart))

-- ---- the bit words of places

module _ (at : ℕ → ℕ) (apart : (c d : ℕ) → at c ≡ at d → c ≡ d) (ws : List ℕ) (q : ℕ) (room : at (q / 64) < length ws) where
  pub elsewhere : (m : ℕ) → ((i : ℕ) → i < 64 → i ≢ q % 64 → bit_at m i ≡ bit_at (get_or ws (at (q / 64)) 0) i)
      → (p : ℕ) → p ≢ q → in_word at (set ws (at (q / 64)) m) p ≡ in_word at ws p
  elsewhere m same p ne = dite (ℕ_discrete (p / 64) (q / 64))
      (λ e. ap (λ x. bit_at x (p % 64)) (get_or-set_at ws (at (q / 64)) (at (p / 64)) m 0 (ap at e) room)
      ∙ same (p % 64) (omega arith) (λ r. ne (omega (arith, e, r))) ∙ ap (λ i. bit_at (get_or ws i 0) (p % 64)) (sym (ap at e)))
      (λ o. ap (λ x. bit_at x (p % 64)) (get_or-set_other ws (at (q / 64)) (at (p / 64)) m 0 (λ s. o (apart (p / 64) (q / 64) s))))

  pub here : (m : ℕ) → in_word at (set ws (at (q / 64)) m) q ≡ bit_at m (q % 64)
  here m = ap (λ x. bit_at x (q % 64)) (get_or-set_same ws (at (q / 64)) m 0 room)

  -- the bit of place q is cleared
  pub cleared : in_word at ws q ≡ 1 → (p : ℕ) → in_word at (set ws (at (q / 64)) (bit_and (get_or ws (at (q / 64)) 0) (others (q % 64)))) p + one q p ≡ in_word at ws p
  cleared was p =
      let n : ℕ = get_or ws (at (q / 64)) 0 in let m : ℕ = bit_and n (others (q % 64)) in
      let low : q % 64 < 64 = omega arith in dite (ℕ_discrete q p)
      (λ e. subst (λ x. in_word at (set ws (at (q / 64)) m) x + one q x ≡ in_word at ws x) e ((λ i. (here m ∙ clear_same n (q % 64) low) i + one-same q q refl i) ∙ sym was))
      (λ ne. (λ i. elsewhere m (clear_other n (q % 64) low) p (λ s. ne (sym s)) i + one-apart q p ne i) ∙ omega arith)

  -- the bit of place q is set
  pub raised : in_word at ws q ≡ 0 → (p : ℕ) → in_word at (set ws (at (q / 64)) (bit_or (get_or ws (at (q / 64)) 0) (2 ^ (q % 64)))) p ≡ in_word at ws p + one q p
  raised was p =
      let n : ℕ = get_or ws (at (q / 64)) 0 in let m : ℕ = bit_or n (2 ^ (q % 64)) in dite (ℕ_discrete q p)
      (λ e. subst (λ x. in_word at (set ws (at (q / 64)) m) x ≡ in_word at ws x + one q x) e (here m ∙ set_same n (q % 64) ∙ sym (λ i. was i + one-same q q refl i)))
      (λ ne. elsewhere m (λ i l d. set_other n (q % 64) i d) p (λ s. ne (sym s)) ∙ sym ((λ i. in_word at ws p + one-apart q p ne i) ∙ omega arith))

-- a bit that is cleared, and one that is set, as a count
pub clear_counts : (n k i : ℕ) → k < 64 → i < 64 → bit_at (bit_and n (others k)) i + bit_at n k * one k i ≡ bit_at n i
clear_counts n k i low l = dite (ℕ_discrete k i)
    (λ e. let x : bit_at n k * one k i ≡ bit_at n k = ap (λ y. bit_at n k * y) (one-same k i e) ∙ omega arith in
    let gone : bit_at (bit_and n (others k)) i ≡ 0 = subst (λ j. bit_at (bit_and n (others k)) j ≡ 0) e (clear_same n k low) in
    let was : bit_at n k ≡ bit_at n i = ap (bit_at n) e in omega (arith, x, gone, was))
    (λ ne. let x : bit_at n k * one k i ≡ 0 = ap (λ y. bit_at n k * y) (one-apart k i ne) ∙ omega arith in
    let same = clear_other n k low i l (λ e. ne (sym e)) in omega (arith, x, same))

pub set_counts : (n k i : ℕ) → bit_at (bit_or n (2 ^ k)) i ≡ bit_at n i + (1 - bit_at n k) * one k i
set_counts n k i = dite (ℕ_discrete k i)
    (λ e. let x : (1 - bit_at n k) * one k i ≡ 1 - bit_at n k = ap (λ y. (1 - bit_at n k) * y) (one-same k i e) ∙ omega arith in
    let there : bit_at (bit_or n (2 ^ k)) i ≡ 1 = subst (λ j. bit_at (bit_or n (2 ^ k)) j ≡ 1) e (set_same n k) in
    let was : bit_at n k ≡ bit_at n i = ap (bit_at n) e in let low = bit_at-lt n k in omega (arith, x, there, was, low))
    (λ ne. let x : (1 - bit_at n k) * one k i ≡ 0 = ap (λ y. (1 - bit_at n k) * y) (one-apart k i ne) ∙ omega arith in
    let same = set_other n k i (λ e. ne (sym e)) in omega (arith, x, same))
