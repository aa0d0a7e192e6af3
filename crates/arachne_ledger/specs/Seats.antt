-- The invariants of `Ledgers` and `Share` over their table and seat.
use Rattle.std.specs.Prelude.{◌≡◌, ℕ, ◌^◌, ◌<◌, [], length}
use Rattle.atomic_table.specs.{Seated.TableId, Table.Me}
use Rattle.arachne_weights.specs.{declared.token.Token.Token, Tokens.held}
use Rattle.arachne_ledger.specs.{declared.share.Known.Known, Balance.word_of}

-- a share's view, and the slots that its seat holds
abbrev pub Mine : Type 0
Mine = Me (Unit {0}) (Token Known)

-- a table with the words of this number of ledgers, which is its key, and with no slot
pub record IsLaidOut (table : TableId) (key count : ℕ) : Type 0 where
  pub keyed : key ≡ count
  pub sized : word_of count ≡ table.words
  pub in_range : word_of count < 2 ^ 64
  pub no_slots : table.slots ≡ 0

-- a seat in use with this weight and no slot, and a sum for each ledger of its table
pub record IsSeated (table : TableId) (weight : ℕ) (me : Mine) : Type 0 where
  pub mine : me ≡ (held weight me.0.known, [])
  pub sized : word_of (length me.0.known.sums) ≡ table.words
