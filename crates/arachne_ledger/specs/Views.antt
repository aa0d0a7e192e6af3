-- The view that contracts have of ledgers and shares.
use Rattle.std.specs.{Prelude.{◌≡◌, ℕ}, declared.option.Option.Option}
use mathlib.Core.Option.{some}
use lib.ListN.{get_elem?}
use Rattle.atomic_table.specs.Seated.{TableId}
use Rattle.arachne_weights.specs.{Tokens.held, Weight.whole}
use Rattle.arachne_ledger.specs.{Sums.Sums, declared.share.Reading.Reading, Balance.{Board, IsBalanced}}

-- the table of the ledgers, and their number
pub record LedgersView : Type 0 where
  pub table : TableId
  pub count : ℕ

-- the table that the share came from, its part of the whole weight, for each ledger the sum of what was added through
-- it, and the number that it last found in a ledger's word
pub record ShareView : Type 0 where
  pub table : TableId
  pub weight : ℕ
  pub sums : Sums
  pub last_read : Option Reading

-- the share came from these ledgers
abbrev pub IsShareOf : LedgersView → ShareView → Type 0
IsShareOf ledgers share = share.table ≡ ledgers.table

-- all other shares were joined into this one
abbrev pub IsWhole : ShareView → Type 0
IsWhole share = share.weight ≡ whole

-- the rule allows a board on which the share of the whole weight has this share's knowledge
pub record IsLawfulEnd (count : ℕ) (share : ShareView) : Type 0 where
  pub board : Board
  pub balanced : IsBalanced count board
  pub place : ℕ
  pub there : get_elem? board.views place ≡ some (held whole (record { sums = share.sums; last_read = share.last_read }))
