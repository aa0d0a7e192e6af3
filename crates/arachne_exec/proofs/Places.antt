-- The places of a block whose bits are set in a word: the lowest, and the others.
use Rattle.std.proofs.Common.{◌≡◌, ℕ, zero, suc, ◌+◌, ◌*◌, ◌^◌, ◌<◌, ◌≤◌, [], ◌∷◌, ◌++◌, if◌then◌else◌, ◌==◌, sym, refl, ap, ◌∙◌, arith, eq-eqb, ne_eqb}
use Rattle.std.specs.Int.{bit_at, RustNames.{bit_and, bit_or}}
use Rattle.std.proofs.lemmas.Nat.Bits.{bit_at-zero, bit_at_or, same_from_bits}
use mathlib.Core.Logic.{dite}
use native.Mathlib.Decide.{ℕ_discrete}
use Rattle.arachne_exec.specs.Layout.{others, places_from, places_in_word}
use Rattle.arachne_exec.proofs.Bits.{clear_same, clear_other, set_same, set_other, not_one}

none_or : (n : ℕ) → bit_or 0 n ≡ n
none_or n = same_from_bits (bit_or 0 n) n (λ i. omega (arith, bit_at_or 0 n i, bit_at-zero i))

module _ (block : ℕ) where
  -- the index isn't among them
  pub skipped : (word i more : ℕ) → bit_at word i ≡ 0 → places_from block word i (suc more) ≡ places_from block word (suc i) more
  skipped word i more clear = ap (λ b. if b then (64 * block + i) ∷ places_from block word (suc i) more else places_from block word (suc i) more)
      (ne_eqb (bit_at word i) 1 (λ e. let wrong : 0 ≡ 1 = sym clear ∙ e in omega (arith, wrong)))

  -- it is
  pub listed : (word i more : ℕ) → bit_at word i ≡ 1 → places_from block word i (suc more) ≡ (64 * block + i) ∷ places_from block word (suc i) more
  listed word i more is = ap (λ b. if b then (64 * block + i) ∷ places_from block word (suc i) more else places_from block word (suc i) more) (eq-eqb (bit_at word i) 1 is)

  module _ (word t : ℕ) (low : t < 64) where
    later : (more i : ℕ) → t < i → i + more ≡ 64 → places_from block word i more ≡ places_from block (bit_and word (others t)) i more
    later zero i behind end = refl
    later (suc more) i behind end =
        let same = sym (clear_other word t low i (omega (arith, end)) (λ e. omega (arith, e, behind))) in let rest = later more (suc i) (omega (arith, behind)) (omega (arith, end)) in
        λ j. if same j == 1 then (64 * block + i) ∷ rest j else rest j

    first : bit_at word t ≡ 1 → ((i : ℕ) → i < t → bit_at word i ≡ 0) → (more i : ℕ) → i ≤ t → i + more ≡ 64
        → places_from block word i more ≡ (64 * block + t) ∷ places_from block (bit_and word (others t)) i more
    first is below zero i before end = absurd (omega (arith, before, end, low))
    first is below (suc more) i before end = dite (ℕ_discrete i t)
        (λ e. listed word i more (ap (bit_at word) e ∙ is)
        ∙ (λ j. (64 * block + e j) ∷ later more (suc i) (omega (arith, e)) (omega (arith, end)) j)
        ∙ ap (λ ps. (64 * block + t) ∷ ps) (sym (skipped (bit_and word (others t)) i more (ap (bit_at (bit_and word (others t))) e ∙ clear_same word t low))))
        (λ ne. let apart : ¬ (i ≡ t) = ne in let under : i < t = omega (arith, before, apart) in skipped word i more (below i under)
        ∙ first is below more (suc i) under (omega (arith, end))
        ∙ ap (λ ps. (64 * block + t) ∷ ps) (sym (skipped (bit_and word (others t)) i more (clear_other word t low i (omega (arith, end)) ne ∙ below i under))))

    pub lowest-first : bit_at word t ≡ 1 → ((i : ℕ) → i < t → bit_at word i ≡ 0) → places_in_word block word ≡ (64 * block + t) ∷ places_in_word block (bit_and word (others t))
    lowest-first is below = first is below 64 0 (omega arith) refl

  nowhere : (more i : ℕ) → ((j : ℕ) → bit_at 0 j ≡ 0) → places_from block 0 i more ≡ []
  nowhere zero i none = refl
  nowhere (suc more) i none = skipped 0 i more (none i) ∙ nowhere more (suc i) none

  pub none-there : ((j : ℕ) → bit_at 0 j ≡ 0) → places_in_word block 0 ≡ []
  none-there none = nowhere 64 0 none

  -- no bit is set from an index on
  none-from : (word : ℕ) (more i : ℕ) → ((j : ℕ) → i ≤ j → bit_at word j ≡ 0) → places_from block word i more ≡ []
  none-from word zero i none = refl
  none-from word (suc more) i none = skipped word i more (none i (omega arith)) ∙ none-from word more (suc i) (λ j after. none j (omega (arith, after)))

  module _ (word t : ℕ) (none : (j : ℕ) → t ≤ j → bit_at word j ≡ 0) where
    behind : (j : ℕ) → suc t ≤ j → bit_at (bit_or word (2 ^ t)) j ≡ 0
    behind j after = set_other word t j (λ e. omega (arith, e, after)) ∙ none j (omega (arith, after))

    last : (more i : ℕ) → i ≤ t → t < i + more → places_from block (bit_or word (2 ^ t)) i more ≡ places_from block word i more ++ (64 * block + t) ∷ []
    last zero i before end = absurd (omega (arith, before, end))
    last (suc more) i before end = dite (ℕ_discrete i t)
        (λ e. listed (bit_or word (2 ^ t)) i more (ap (bit_at (bit_or word (2 ^ t))) e ∙ set_same word t)
        ∙ ap (λ ps. (64 * block + i) ∷ ps) (none-from (bit_or word (2 ^ t)) more (suc i) (λ j after. behind j (omega (arith, e, after))))
        ∙ (λ j. (64 * block + e j) ∷ [])
        ∙ ap (λ ps. ps ++ (64 * block + t) ∷ []) (sym (none-from word (suc more) i (λ j after. none j (omega (arith, e, after))))))
        (λ ne. let apart : ¬ (i ≡ t) = ne in let rest = last more (suc i) (omega (arith, before, apart)) (omega (arith, end)) in let same = set_other word t i ne in dite (ℕ_discrete (bit_at word i) 1)
        (λ is. listed (bit_or word (2 ^ t)) i more (same ∙ is) ∙ ap (λ ps. (64 * block + i) ∷ ps) rest ∙ ap (λ ps. ps ++ (64 * block + t) ∷ []) (sym (listed word i more is)))
        (λ other. let clear = not_one word i other in skipped (bit_or word (2 ^ t)) i more (same ∙ clear) ∙ rest ∙ ap (λ ps. ps ++ (64 * block + t) ∷ []) (sym (skipped word i more clear))))

    -- a bit behind all others is set
    pub highest-last : t < 64 → places_in_word block (bit_or word (2 ^ t)) ≡ places_in_word block word ++ (64 * block + t) ∷ []
    highest-last low = last 64 0 (omega arith) (omega (arith, low))

  -- a bit that is set alone
  pub alone : (t : ℕ) → t < 64 → places_in_word block (2 ^ t) ≡ (64 * block + t) ∷ []
  alone t low = ap (places_in_word block) (sym (none_or (2 ^ t))) ∙ highest-last 0 t (λ j le. bit_at-zero j) low ∙ ap (λ ps. ps ++ (64 * block + t) ∷ []) (none-there bit_at-zero)
