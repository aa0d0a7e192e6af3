-- The steps that a share's seat may make on the table that it came from.
use Rattle.std.proofs.Common.{◌≡◌, ℕ, ◌+◌, ◌%◌, ◌^◌, ◌<◌, List, length, get_or, sym, ap, ◌∙◌, subst, arith, length-set}
use mathlib.Core.Option.{none, some}
use lib.ListN.{get_elem?}
use Rattle.atomic_table.specs.{Seated.TableId, Table.{step, Allows, Splits, Joins, Final, Seen}}
use Rattle.arachne_weights.specs.{declared.token.Token.Token, Weight.{whole, joined}, Tokens.{held, spent}}
use Rattle.arachne_ledger.specs.{declared.share.Known.Known, Sums.{blank, after_adding, after_reading, after_joining}}
use Rattle.arachne_ledger.specs.Balance.{word_of, IsBalanced, first_share, second_share, joined_share}
use Rattle.arachne_ledger.specs.{Seats.{Mine, IsLaidOut, IsSeated}, Steps.{Adds, Reads}}
use Rattle.arachne_ledger.proofs.{Keeps.{adds, reads, deals, gathers, settles}, Sums.length-plus}

module _ (table : TableId) (key count : ℕ) (laid : IsLaidOut table key count) where
  -- a share has a sum for each ledger
  pub long : (home : TableId) (weight : ℕ) (me : Mine) → home ≡ table → IsSeated home weight me → length me.0.known.sums ≡ key
  long home weight me same seat = let words = ap (λ (t : TableId). t.words) same in omega (arith, laid.sized, laid.keyed, seat.sized)

  pub add-allowed : (home : TableId) (weight : ℕ) (me : Mine) → home ≡ table → IsSeated home weight me → (id word ledger amount : ℕ) → word ≡ word_of ledger → ledger < count
      → Allows (IsBalanced key) table.slots id me word (λ n. (n + amount) % 2 ^ 64) (Adds (step table.slots word amount 0 none) me)
  add-allowed home weight me same seat id word ledger amount there inside =
      subst (λ (m : Mine). Allows (IsBalanced key) table.slots id m word (λ n. (n + amount) % 2 ^ 64) (Adds (step table.slots word amount 0 none) m)) (sym seat.mine)
      (adds key table.slots id word ledger amount weight me.0.known there (omega (arith, laid.keyed)) (long home weight me same seat))

  pub read-allowed : (home : TableId) (weight : ℕ) (me : Mine) → home ≡ table → IsSeated home weight me → (id word ledger : ℕ) → word ≡ word_of ledger
      → Allows (IsBalanced key) table.slots id me word (λ n. n) (Reads (step table.slots word 0 0 none) me)
  read-allowed home weight me same seat id word ledger there =
      subst (λ (m : Mine). Allows (IsBalanced key) table.slots id m word (λ n. n) (Reads (step table.slots word 0 0 none) m)) (sym seat.mine)
      (reads key table.slots id word ledger weight me.0.known there (long home weight me same seat))

  -- the word at the end is the sum of the whole share
  pub settled : (home : TableId) (weight : ℕ) (me : Mine) → home ≡ table → IsSeated home weight me → weight ≡ whole → (id : ℕ) (words : List ℕ) (slots : List (Unit {0})) → Final (Seen (IsBalanced key) id me.0) words slots
      → (word ledger found : ℕ) → word ≡ word_of ledger → ledger < count → get_elem? words word ≡ some found → found ≡ get_or me.0.known.sums ledger 0 % 2 ^ 64
  settled home weight me same seat all id words slots final word ledger found there inside at =
      settles key id me.0.known words slots (subst (λ (t : Token Known). Final (Seen (IsBalanced key) id t) words slots) (ap (λ (m : Mine). m.0) seat.mine ∙ ap (λ w. held w me.0.known) all) final)
      ledger found (omega (arith, laid.keyed)) (ap (λ w. get_elem? words w) (sym there) ∙ at)

pub split-allowed : (key : ℕ) (home : TableId) (weight : ℕ) (me : Mine) → IsSeated home weight me → (id : ℕ) → Splits (IsBalanced key) id me.0 (first_share me.0) (second_share me.0)
split-allowed key home weight me seat id =
    subst (λ (m : Mine). Splits (IsBalanced key) id m.0 (first_share m.0) (second_share m.0)) (sym seat.mine) (deals key id weight me.0.known)

pub join-allowed : (key : ℕ) (home away : TableId) (weight added : ℕ) (me other : Mine) → IsSeated home weight me → IsSeated away added other → (id from : ℕ)
    → Joins (IsBalanced key) id me.0 from other.0 (joined_share me.0 other.0) (spent (blank 0))
join-allowed key home away weight added me other seat seat' id from =
    subst (λ (m : Mine × Mine). Joins (IsBalanced key) id m.0.0 from m.1.0 (joined_share m.0.0 m.1.0) (spent (blank 0))) (λ i. (sym seat.mine i, sym seat'.mine i))
    (gathers key id weight me.0.known from added other.0.known)

-- a seat after an add
pub seated-added : (home : TableId) (weight : ℕ) (before after : Mine) → IsSeated home weight before → (ledger amount : ℕ)
    → after ≡ (held before.0.weight (after_adding before.0.known ledger amount), before.1) → IsSeated home weight after
seated-added home weight before after seat ledger amount told =
    let more : Known = after_adding before.0.known ledger amount in
    subst (λ (m : Mine). IsSeated home weight m) (sym told) (record {
      mine = λ i. (held (ap (λ (m : Mine). m.0.weight) seat.mine i) more, ap (λ (m : Mine). m.1) seat.mine i);
      sized = ap word_of (length-set before.0.known.sums ledger (get_or before.0.known.sums ledger 0 + amount)) ∙ seat.sized;
    })

-- a seat after a read
pub seated-told : (home : TableId) (weight : ℕ) (before after : Mine) → IsSeated home weight before → (ledger found : ℕ)
    → after ≡ (held before.0.weight (after_reading before.0.known ledger found), before.1) → IsSeated home weight after
seated-told home weight before after seat ledger found told =
    let more : Known = after_reading before.0.known ledger found in
    subst (λ (m : Mine). IsSeated home weight m) (sym told) (record {
      mine = λ i. (held (ap (λ (m : Mine). m.0.weight) seat.mine i) more, ap (λ (m : Mine). m.1) seat.mine i);
      sized = seat.sized;
    })

-- a seat after another was joined into it
pub seated-joined : (home away : TableId) (weight added : ℕ) (me other after : Mine) → IsSeated home weight me → IsSeated away added other → away ≡ home
    → after ≡ (joined_share me.0 other.0, me.1) → IsSeated home (joined weight added) after
seated-joined home away weight added me other after seat seat' same e =
    let words = ap (λ (t : TableId). t.words) same in
    subst (λ (m : Mine). IsSeated home (joined weight added) m) (sym e) (record {
      mine = λ i. (held (joined (ap (λ (m : Mine). m.0.weight) seat.mine i) (ap (λ (m : Mine). m.0.weight) seat'.mine i)) (after_joining me.0.known other.0.known), ap (λ (m : Mine). m.1) seat.mine i);
      sized = ap word_of (length-plus me.0.known.sums other.0.known.sums (omega (arith, seat.sized, seat'.sized))) ∙ seat.sized;
    })
