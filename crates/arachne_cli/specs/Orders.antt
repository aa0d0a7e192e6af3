-- The words of core orders.
use Rattle.std.specs.Prelude.{ℕ, suc, ◌≡◌, ◌↔◌, ◌^◌, ◌<◌, List, [], ◌∷◌, ◌++◌, codes, Option, Some, None, Result, Ok, Err}
use Rattle.arachne_lang.specs.{Spelling.numeral, Reading.{Halt, Reading, figures_at, number_at, word_at}}
use Rattle.arachne_policy.specs.declared.orders.{CoreOrder.CoreOrder, OrderKind.OrderKind}
use Rattle.arachne_policy.specs.declared.orders.OrderKind.TheVariants.{Grant, Release}

abbrev pub kind_word : OrderKind → List ℕ
kind_word Grant = codes "grant"
kind_word Release = codes "release"

-- an order as a word: the number of slices, the kind, and the core
abbrev pub order_word : CoreOrder → List ℕ
order_word order = numeral order.after ++ codes ":" ++ kind_word order.kind ++ codes ":" ++ numeral order.core

-- both numbers of an order fit 64 bits
pub record FitsWords (order : CoreOrder) : Type 0 where
  pub after : order.after < 2 ^ 64
  pub core : order.core < 2 ^ 64

-- the result of reading a kind and its colon at the front of the text: the kind, and the rest after the colon
abbrev pub HasReadKind : List ℕ → Option (OrderKind × List ℕ) → Type 0
HasReadKind text read = (kind : OrderKind) (rest : List ℕ) → (read ≡ Some (kind, rest)) ↔ (text ≡ kind_word kind ++ codes ":" ++ rest)

-- ---- the order that a word spells; `order_of word ≡ Some order` exactly if `order_word order ≡ word` and both numbers
-- fit

-- a kind and its colon, and the rest after them
abbrev pub release_at : Result (List ℕ) Halt → Option (OrderKind × List ℕ)
release_at (Ok rest) = Some (Release, rest)
release_at (Err halt) = None

abbrev pub grant_or : List ℕ → Result (List ℕ) Halt → Option (OrderKind × List ℕ)
grant_or bytes (Ok rest) = Some (Grant, rest)
grant_or bytes (Err halt) = release_at (word_at (codes "release:") bytes)

abbrev pub kind_at : List ℕ → Option (OrderKind × List ℕ)
kind_at bytes = grant_or bytes (word_at (codes "grant:") bytes)

-- the number of the core, which ends the word
abbrev pub ended_by : ℕ → OrderKind → ℕ → List ℕ → Option CoreOrder
ended_by after kind core [] = Some (record { after = after; kind = kind; core = core })
ended_by after kind core (byte ∷ rest) = None

abbrev pub with_core : ℕ → OrderKind → Reading ℕ → Option CoreOrder
with_core after kind (Ok read) = ended_by after kind read.0 read.1
with_core after kind (Err halt) = None

abbrev pub with_kind : ℕ → Option (OrderKind × List ℕ) → Option CoreOrder
with_kind after (Some read) = with_core after read.0 (figures_at (2 ^ 64) read.1)
with_kind after None = None

abbrev pub with_after : Reading ℕ → Option CoreOrder
with_after (Ok read) = with_kind read.0 (kind_at read.1)
with_after (Err halt) = None

unfoldable pub order_of : List ℕ → Option CoreOrder
order_of word = with_after (number_at (2 ^ 64) (codes ":") word)

-- an order before these, or before the malformed word
abbrev pub and_orders : Option CoreOrder → Result (List CoreOrder) ℕ → Result (List CoreOrder) ℕ
and_orders None others = Err 0
and_orders (Some order) (Ok orders) = Ok (order ∷ orders)
and_orders (Some order) (Err index) = Err (suc index)

-- the orders that the words spell, or the index of the first word that spells none
abbrev pub orders_of : List (List ℕ) → Result (List CoreOrder) ℕ
orders_of [] = Ok []
orders_of (word ∷ words) = and_orders (order_of word) (orders_of words)
