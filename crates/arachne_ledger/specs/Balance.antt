-- The balance between the words of the table and the sums of the shares.
use Rattle.std.specs.Prelude.{◌≡◌, ℕ, ◌+◌, ◌*◌, ◌%◌, ◌^◌, ◌<◌, List, [], ◌∷◌, ◌++◌, length, slice_index, slice_set}
use Rattle.std.specs.List.{sum_by}
use Rattle.atomic_table.specs.Table.{State}
use Rattle.arachne_weights.specs.{declared.token.Token.Token, Tokens.{held, spent, IsReachable}}
use Rattle.arachne_weights.specs.Weight.{whole, first_part, second_part, joined}
use Rattle.arachne_ledger.specs.{declared.share.Known.Known, Sums.{blank, after_adding, after_reading, after_joining}}

-- The index of a ledger's word. Ledgers lie sixteen words apart, and sixteen words follow the place of the last. So no
-- two share a cache line, and no ledger shares one with the memory next to the table.
abbrev pub word_of : ℕ → ℕ
word_of ledger = 16 * (ledger + 1)

abbrev pub sum_of_shares : ℕ → List (Token Known) → ℕ
sum_of_shares ledger shares = sum_by (λ (t : Token Known). slice_index t.known.sums ledger) shares

-- the words, and the views of all shares
abbrev pub Board : Type 0
Board = State (Unit {0}) (Token Known)

-- each ledger's word is the sum of all shares for it, modulo 2^64
pub record IsBalanced (count : ℕ) (board : Board) : Type 0 where
  pub shared : IsReachable (blank 0) board.views
  pub sized : length board.words ≡ word_of count
  pub balanced : (ledger : ℕ) → ledger < count → slice_index board.words (word_of ledger) ≡ sum_of_shares ledger board.views % 2 ^ 64

-- the share at the start: the whole weight, and nothing added
abbrev pub opening_share : ℕ → Token Known
opening_share count = held whole (blank count)

-- a split leaves the sums with the first share, and the second begins with nothing
abbrev pub first_share : Token Known → Token Known
first_share t = held (first_part t.weight) t.known

abbrev pub second_share : Token Known → Token Known
second_share t = held (second_part t.weight) (blank (length t.known.sums))

abbrev pub joined_share : Token Known → Token Known → Token Known
joined_share t u = held (joined t.weight u.weight) (after_joining t.known u.known)

-- the board after an add through the share at that place
abbrev pub after_add : Board → ℕ → ℕ → Known → ℕ → ℕ → Board
after_add board place weight known ledger amount = record {
  words = slice_set board.words (word_of ledger) ((slice_index board.words (word_of ledger) + amount) % 2 ^ 64);
  homes = board.homes;
  views = slice_set board.views place (held weight (after_adding known ledger amount));
}

abbrev pub after_split : Board → ℕ → ℕ → Known → Board
after_split board place weight known = record {
  words = board.words;
  homes = board.homes;
  views = slice_set board.views place (first_share (held weight known)) ++ second_share (held weight known) ∷ [];
}

-- the board after the share at that place was joined with the other, which is spent
abbrev pub after_join : Board → ℕ → ℕ → Known → ℕ → ℕ → Known → Board
after_join board place weight known other added others = record {
  words = board.words;
  homes = board.homes;
  views = slice_set (slice_set board.views place (joined_share (held weight known) (held added others))) other (spent (blank 0));
}

-- the board after a read through the share at that place, which changes only the share's last reading
abbrev pub after_read : Board → ℕ → ℕ → Known → ℕ → Board
after_read board place weight known ledger = record {
  words = board.words;
  homes = board.homes;
  views = slice_set board.views place (held weight (after_reading known ledger (slice_index board.words (word_of ledger))));
}
