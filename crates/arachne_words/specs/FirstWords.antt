-- The words of a table at first, by their index.
use Rattle.std.specs.Prelude.{ℕ, ◌+◌, ◌-◌, ◌*◌, ◌/◌, ◌%◌, false, if◌then◌else◌, nat_lt}
use Rattle.arachne_core.specs.{declared.layout.TheConstants.CORE_BITS, Place.first_place, Marked.mark_word}
use Rattle.arachne_core.specs.declared.mark.Mark.TheVariants as mark
use Rattle.arachne_rule.specs.declared.layout.TheConstants.{BLOCK, NAMES}

-- a word of a core's block, for cores of `slots` places: a place word names the context that stands there at first, and
-- the other words are 0
abbrev pub block_word : ℕ → ℕ → ℕ → ℕ
block_word slots core offset = if nat_lt offset NAMES then 0 else if nat_lt (offset - NAMES) slots then core * slots + (offset - NAMES) else 0

-- a word of a table with n contexts of the same generation: first their mark words, and then the blocks of the cores
abbrev pub first_word : ℕ → ℕ → ℕ → ℕ → ℕ
first_word slots n generation i =
    if nat_lt i n then mark_word CORE_BITS (record { mark = mark.Free; alone = false; place = first_place slots i; generation = generation })
    else block_word slots ((i - n) / BLOCK) ((i - n) % BLOCK)
