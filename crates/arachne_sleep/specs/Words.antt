-- The words of a lock's table: its guard word, with two cache lines of unused words before it and behind it.
use Rattle.std.specs.Prelude.{ℕ, List, replicate}

-- the index of the guard word
abbrev pub guard_word : ℕ
guard_word = 16

abbrev pub word_count : ℕ
word_count = 32

abbrev pub first_words : List ℕ
first_words = replicate word_count 0
