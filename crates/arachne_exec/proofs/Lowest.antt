-- The lowest bits of a word, picked one after the other.
use Rattle.std.proofs.Common.{◌≡◌, ℕ, ◌+◌, ◌*◌, ◌^◌, ◌<◌, ◌≤◌, max, min, [], ◌∷◌, ◌++◌, length, sym, ap, ◌∙◌, arith, append_assoc, length-append}
use Rattle.std.specs.Int.{bit_at, RustNames.{bit_and, bit_or}}
use Rattle.std.proofs.lemmas.Nat.{pow_pos, le_or_l}
use Rattle.std.proofs.lemmas.Nat.Bits.{bit_at-lt, bit_at_and, bit_at_or, and_pow, bit_at-pow_same, bit_at-pow_other, same_from_bits}
use mathlib.Core.Logic.{dite}
use native.Mathlib.Decide.{ℕ_discrete}
use Rattle.arachne_exec.specs.Layout.{others, places_in_word}
use Rattle.arachne_exec.proofs.{Bits.{clear_same, set_other}, Places.{alone, highest-last, lowest-first}}

-- a bit that two words have in common
pub common_bit : (a b i : ℕ) → bit_at (bit_and a b) i ≡ 1 → bit_at a i ≡ 1
common_bit a b i e = omega (arith, bit_at_and a b i, bit_at-lt a i, e)

pub bit_within : (word t : ℕ) → bit_at word t ≡ 1 → bit_and word (2 ^ t) ≡ 2 ^ t
bit_within word t there = and_pow word t ∙ ap (λ b. b * 2 ^ t) there ∙ omega arith

-- one more bit of a word is picked
pub still_within : (word pick t : ℕ) → bit_and word pick ≡ pick → bit_at word t ≡ 1 → bit_and word (bit_or pick (2 ^ t)) ≡ bit_or pick (2 ^ t)
still_within word pick t within there = same_from_bits (bit_and word (bit_or pick (2 ^ t))) (bit_or pick (2 ^ t))
    (λ i. let both = bit_at_and word (bit_or pick (2 ^ t)) i in let now = bit_at_or pick (2 ^ t) i in let p = bit_at-lt pick i in dite (ℕ_discrete i t)
    (λ e. let picked : bit_at (2 ^ t) i ≡ 1 = ap (bit_at (2 ^ t)) e ∙ bit_at-pow_same t in let set : bit_at word i ≡ 1 = ap (bit_at word) e ∙ there in omega (arith, both, now, p, picked, set))
    (λ ne. let old : min (bit_at word i) (bit_at pick i) ≡ bit_at pick i = sym (bit_at_and word pick i) ∙ ap (λ n. bit_at n i) within in omega (arith, both, now, p, old, bit_at-pow_other t i ne)))

-- so many bits of the word are picked, and each that is left is behind all of these
pub record Picked (word most pick left count : ℕ) : Type 0 where
  pub some : 0 < pick
  pub within : bit_and word pick ≡ pick
  pub rest : (i : ℕ) → bit_at left i ≡ 1 → bit_at word i ≡ 1
  pub apart : (i j : ℕ) → bit_at left i ≡ 1 → i ≤ j → bit_at pick j ≡ 0
  pub both : (block : ℕ) → places_in_word block word ≡ places_in_word block pick ++ places_in_word block left
  pub many : (block : ℕ) → length (places_in_word block pick) ≡ count
  pub begun : 1 ≤ count
  pub so_far : count ≤ max 1 most

module _ (word t : ℕ) (low : t < 64) (there : bit_at word t ≡ 1) (lowest : (i : ℕ) → i < t → bit_at word i ≡ 0) where
  -- what is left without the lowest bit is behind it
  behind : (i : ℕ) → bit_at (bit_and word (others t)) i ≡ 1 → t < i
  behind i is = dite (ℕ_discrete i t)
      (λ e. let wrong : 0 ≡ 1 = sym (clear_same word t low) ∙ sym (ap (bit_at (bit_and word (others t))) e) ∙ is in absurd (omega (arith, wrong)))
      (λ ne. let apart : ¬ (i ≡ t) = ne in dite (ℕ_discrete (bit_at word i) 0)
      (λ clear. let wrong : 0 ≡ 1 = sym clear ∙ common_bit word (others t) i is in absurd (omega (arith, wrong)))
      (λ set. let before : ¬ (i < t) = λ less. set (lowest i less) in omega (arith, apart, before)))

  pub first-picked : (most : ℕ) → Picked word most (2 ^ t) (bit_and word (others t)) 1
  first-picked most = record {
    some = pow_pos t;
    within = bit_within word t there;
    rest = λ i is. common_bit word (others t) i is;
    apart = λ i j is le. let after = behind i is in bit_at-pow_other t j (λ e. omega (arith, e, after, le));
    both = λ block. lowest-first block word t low there lowest ∙ ap (λ ps. ps ++ places_in_word block (bit_and word (others t))) (sym (alone block t low));
    many = λ block. ap length (alone block t low);
    begun = omega arith;
    so_far = omega arith;
  }

module _ (word most pick left count t : ℕ) (low : t < 64) (there : bit_at left t ≡ 1) (lowest : (i : ℕ) → i < t → bit_at left i ≡ 0) (old : Picked word most pick left count) where
  last : (block : ℕ) → places_in_word block (bit_or pick (2 ^ t)) ≡ places_in_word block pick ++ (64 * block + t) ∷ []
  last block = highest-last block pick t (λ j le. old.apart t j there le) low

  pub next-picked : count < most → Picked word most (bit_or pick (2 ^ t)) (bit_and left (others t)) (count + 1)
  next-picked more = record {
    some = omega (arith, le_or_l pick (2 ^ t), old.some);
    within = still_within word pick t old.within (old.rest t there);
    rest = λ i is. old.rest i (common_bit left (others t) i is);
    apart = λ i j is le. let after = behind left t low there lowest i is in set_other pick t j (λ e. omega (arith, e, after, le)) ∙ old.apart t j there (omega (arith, after, le));
    both = λ block. old.both block
        ∙ ap (λ ps. places_in_word block pick ++ ps) (lowest-first block left t low there lowest)
        ∙ sym (append_assoc (places_in_word block pick) ((64 * block + t) ∷ []) (places_in_word block (bit_and left (others t))))
        ∙ ap (λ ps. ps ++ places_in_word block (bit_and left (others t))) (sym (last block));
    many = λ block. ap length (last block) ∙ length-append (places_in_word block pick) ((64 * block + t) ∷ []) ∙ ap (λ n. n + 1) (old.many block);
    begun = omega arith;
    so_far = omega (arith, more);
  }
