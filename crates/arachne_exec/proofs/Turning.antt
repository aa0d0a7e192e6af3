-- The first bit that is set, from an index on, round a word.
use Rattle.std.proofs.Common.{◌≡◌, ℕ, ◌+◌, ◌-◌, ◌/◌, ◌%◌, ◌^◌, ◌<◌, ◌≤◌, ap, sym, ◌∙◌, inl, inr, arith, shr-shr}
use Rattle.std.specs.Int.{bit_at, RustNames.bit_and}
use Rattle.std.proofs.lemmas.{Bool.cases_lt, Nat.Bits.{bit_at_above, bit_at-zero}}
use Rattle.arachne_exec.specs.{Layout.others, Turns.IsFirstFrom}
use Rattle.arachne_exec.proofs.Bits.{clear_same, clear_le}

-- the bits of a word that is shifted down
pub bit_ahead : (word from i : ℕ) → bit_at (word / 2 ^ from) i ≡ bit_at word (from + i)
bit_ahead word from i = ap (λ n. n % 2) (shr-shr word from i)

module _ (word from : ℕ) (fits : word < 2 ^ 64) where
  -- none from the index on is set: it is the lowest
  pub first-round : (index : ℕ) → word / 2 ^ (from % 64) ≡ 0 → index < 64 → bit_at word index ≡ 1 → ((i : ℕ) → i < index → bit_at word i ≡ 0) → IsFirstFrom word from index
  first-round index none low there lowest =
      let ahead : (i : ℕ) → bit_at word (from % 64 + i) ≡ 0 = λ i. sym (bit_ahead word (from % 64) i) ∙ ap (λ n. bit_at n i) none ∙ bit_at-zero i in
      let from_on : (i : ℕ) → from % 64 ≤ i → bit_at word i ≡ 0 = λ i le. let e : i ≡ from % 64 + (i - from % 64) = omega (arith, le) in ap (bit_at word) e ∙ ahead (i - from % 64) in
      let before : ¬ (from % 64 ≤ index) = λ le. omega (arith, from_on index le, there) in
      record {
        low = low;
        there = there;
        nearest = λ other small near. elim (cases_lt other (from % 64)) [
          | inl less ↦ lowest other (omega (arith, near, before, less))
          | inr le ↦ from_on other le
        ];
      }

  -- the lowest from the index on
  pub first-ahead : (t : ℕ) → bit_at (word / 2 ^ (from % 64)) t ≡ 1 → ((i : ℕ) → i < t → bit_at (word / 2 ^ (from % 64)) i ≡ 0) → IsFirstFrom word from (from % 64 + t)
  first-ahead t there lowest =
      let set : bit_at word (from % 64 + t) ≡ 1 = sym (bit_ahead word (from % 64) t) ∙ there in
      let small : ¬ (64 ≤ from % 64 + t) = λ le. omega (arith, bit_at_above word 64 (from % 64 + t) fits le, set) in
      record {
        low = omega (arith, small);
        there = set;
        nearest = λ other less near.
            let e : other ≡ from % 64 + (other - from % 64) = omega (arith, small, less, near) in
            ap (bit_at word) e ∙ sym (bit_ahead word (from % 64) (other - from % 64)) ∙ lowest (other - from % 64) (omega (arith, small, less, near, e));
      }

differs-without : (word index block : ℕ) → block % 64 ≡ index → bit_at word index ≡ 1 → ¬ (bit_and word (others (block % 64)) ≡ word)
differs-without word index block same there e =
    let wrong : 0 ≡ 1 = sym (clear_same word (block % 64) (omega arith)) ∙ ap (λ n. bit_at n (block % 64)) e ∙ ap (bit_at word) same ∙ there in
    omega (arith, wrong)

-- a word that loses a bit is less
pub less-without : (word index block : ℕ) → block % 64 ≡ index → bit_at word index ≡ 1 → bit_and word (others (block % 64)) < word
less-without word index block same there = omega (arith, clear_le word (block % 64) (omega arith), differs-without word index block same there)
