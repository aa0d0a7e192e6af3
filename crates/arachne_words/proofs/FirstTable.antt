-- The first words of a table are those that its rule requires.
use Rattle.std.proofs.Common.{◌≡◌, ℕ, ◌+◌, ◌-◌, ◌*◌, ◌/◌, ◌%◌, ◌<◌, ◌≤◌, ◌∙◌, ltb, false, arith, List, length, get_or}
use Rattle.std.proofs.lemmas.Bool.{cond-true, cond-false, lt-ltb, le-ltb}
use Rattle.arachne_core.specs.{declared.layout.TheConstants.{CORE_BITS, SLOTS}, Place.first_place, Marked.mark_word}
use Rattle.arachne_core.specs.declared.mark.Mark.TheVariants as mark
use Rattle.arachne_rule.specs.{declared.layout.TheConstants.{BLOCK, NAMES, OCCUPANCY}, Layout.AreFirstWords}
use Rattle.arachne_words.specs.FirstWords.{first_word, block_word}

pub block-before : (slots core offset : ℕ) → offset < NAMES → block_word slots core offset ≡ 0
block-before slots core offset h = cond-true (ltb offset NAMES) _ _ (lt-ltb offset NAMES h)

pub block-name : (slots core offset : ℕ) → NAMES ≤ offset → offset - NAMES < slots → block_word slots core offset ≡ core * slots + (offset - NAMES)
block-name slots core offset h l = cond-false (ltb offset NAMES) _ _ (le-ltb offset NAMES h) ∙ cond-true (ltb (offset - NAMES) slots) _ _ (lt-ltb (offset - NAMES) slots l)

pub word-mark : (slots n generation i : ℕ) → i < n → first_word slots n generation i ≡ mark_word CORE_BITS (record { mark = mark.Free; alone = false; place = first_place slots i; generation = generation })
word-mark slots n generation i h = cond-true (ltb i n) _ _ (lt-ltb i n h)

pub word-block : (slots n generation i : ℕ) → n ≤ i → first_word slots n generation i ≡ block_word slots ((i - n) / BLOCK) ((i - n) % BLOCK)
word-block slots n generation i h = cond-false (ltb i n) _ _ (le-ltb i n h)

pub are-first : (cores slots generation last : ℕ) (ws : List ℕ) → slots ≤ SLOTS → length ws ≡ cores * slots + BLOCK * cores
    → ((i : ℕ) → i < cores * slots + BLOCK * cores → get_or ws i 0 ≡ first_word slots (cores * slots) generation i)
    → AreFirstWords CORE_BITS (record { cores = cores; places_per_core = slots; first = generation; last = last }) ws
are-first cores slots generation last ws few long each =
    let n : ℕ = cores * slots in record {
      long = long;
      occ = λ c c_in.
          let i : ℕ = n + BLOCK * c + OCCUPANCY in
          each i (omega (arith, c_in)) ∙ word-block slots n generation i (omega arith)
          ∙ block-before slots ((i - n) / BLOCK) ((i - n) % BLOCK) (omega arith);
      mark = λ x x_in. each x (omega (arith, x_in)) ∙ word-mark slots n generation x x_in;
      name = λ p core_in index_in.
          let i : ℕ = n + BLOCK * p.core + NAMES + p.index in
          let small : p.index < SLOTS = omega (arith, index_in, few) in
          let offset : (i - n) % BLOCK ≡ NAMES + p.index = omega (arith, small) in
          let core : (i - n) / BLOCK ≡ p.core = omega (arith, small) in
          each i (omega (arith, core_in, small)) ∙ word-block slots n generation i (omega arith)
          ∙ (λ j. block_word slots (core j) (offset j)) ∙ block-name slots p.core (NAMES + p.index) (omega arith) (omega (arith, index_in)) ∙ omega arith;
    }
