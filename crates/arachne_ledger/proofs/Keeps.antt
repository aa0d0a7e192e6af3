-- Each step keeps the balance between the words and the shares.
use Rattle.std.proofs.Common.{◌≡◌, ◌≢◌, ℕ, ◌+◌, ◌%◌, ◌^◌, ◌<◌, List, [], ◌∷◌, ◌++◌, length, get_or, set, sym, refl, ap, ◌∙◌, subst, arith, length-set, get_or-set_other}
use Rattle.std.proofs.{lemmas.Grind.get_or-set_at, lemmas.List.set-get_or, Math.Nat.mod-add-mod}
use mathlib.Core.{Logic.dite, Option.{none, some}}
use native.Mathlib.Decide.{ℕ_discrete}
use lib.ListN.{get_elem?}
use Rattle.atomic_table.specs.Table.{step, keeps, opening, Allows, Splits, Joins, Final, Seen}
use Rattle.atomic_table.proofs.Lists.{set_else}
use Rattle.arachne_weights.specs.{declared.token.Token.Token, Weight.whole}
use Rattle.arachne_weights.specs.Tokens.{held, spent, begins, learns, splits, joins}
use Rattle.arachne_weights.proofs.{Tokens.whole-total, Totals.{total-set, total-snoc}}
use Rattle.arachne_ledger.specs.declared.share.Known.{Known}
use Rattle.arachne_ledger.specs.Sums.{Sums, raised, blank, after_adding, after_reading, after_joining}
use Rattle.arachne_ledger.specs.Balance.{word_of, Board, sum_of_shares, IsBalanced, opening_share, first_share, second_share, joined_share, after_add, after_read, after_split, after_join}
use Rattle.arachne_ledger.specs.Steps.{Adds, Reads}
use Rattle.arachne_ledger.proofs.Sums.{get_or-at, zeros-at, plus-at}

-- the sum of a share for one ledger
abbrev at : ℕ → Token Known → ℕ
at ledger t = get_or t.known.sums ledger 0

pub opens : (count : ℕ) (words : List ℕ) → length words ≡ word_of count → ((i : ℕ) → get_or words i 0 ≡ 0) → IsBalanced count (opening words [] (opening_share count))
opens count words sized clear = record {
  shared = begins (blank count);
  sized = sized;
  balanced = λ ledger _. let none_yet = zeros-at count ledger in let nothing : 0 ≡ sum_of_shares ledger (opening_share count ∷ []) = omega arith in
      clear (word_of ledger) ∙ ap (λ n. n % 2 ^ 64) nothing;
}

-- an amount that is added to a reduced sum
add-reduced : (found total amount : ℕ) → found ≡ total % 2 ^ 64 → (found + amount) % 2 ^ 64 ≡ (total + amount) % 2 ^ 64
add-reduced found total amount e = ap (λ n. (n + amount) % 2 ^ 64) e ∙ mod-add-mod total (2 ^ 64) amount

-- the sum of one ledger is raised, and the others are unchanged
raised-same : (sums : Sums) (ledger other amount : ℕ) → ledger < length sums → other ≡ ledger → get_or (raised sums ledger amount) other 0 ≡ get_or sums other 0 + amount
raised-same sums ledger other amount inside e = get_or-set_at sums ledger other (get_or sums ledger 0 + amount) 0 e inside ∙ ap (λ k. get_or sums k 0 + amount) (sym e)

-- the words are still the sums of the shares
module _ (count : ℕ) (board : Board) (h : IsBalanced count board) (place weight : ℕ) (known : Known) (mine : get_elem? board.views place ≡ some (held weight known)) where
  pub keeps-add : (ledger amount : ℕ) → ledger < count → length known.sums ≡ count → IsBalanced count (after_add board place weight known ledger amount)
  keeps-add ledger amount inside long =
      let more : Token Known = held weight (after_adding known ledger amount) in
      let word : ℕ = word_of ledger in let found : ℕ = get_or board.words word 0 in let now : ℕ = (found + amount) % 2 ^ 64 in
      let room : word < length board.words = omega (arith, h.sized) in record {
        shared = learns h.shared place weight known (after_adding known ledger amount) mine;
        sized = length-set board.words word now ∙ h.sized;
        balanced = λ other below. let total = total-set (at other) board.views place (held weight known) more mine in dite (ℕ_discrete other ledger)
            (λ same. let here : word ≡ word_of other = omega arith in
            let sum = raised-same known.sums ledger other amount (omega arith) same in
            let grown : sum_of_shares other board.views + amount ≡ sum_of_shares other (set board.views place more) = omega arith in
            get_or-set_at board.words word (word_of other) now 0 (sym here) room
            ∙ add-reduced found (sum_of_shares other board.views) amount (ap (λ i. get_or board.words i 0) here ∙ h.balanced other below)
            ∙ ap (λ n. n % 2 ^ 64) grown)
            (λ apart. let sum = get_or-set_other known.sums ledger other (get_or known.sums ledger 0 + amount) 0 apart in
            let kept : sum_of_shares other board.views ≡ sum_of_shares other (set board.views place more) = omega arith in
            get_or-set_other board.words word (word_of other) now 0 (λ e. apart (omega arith)) ∙ h.balanced other below ∙ ap (λ n. n % 2 ^ 64) kept);
      }

  pub keeps-read : (ledger : ℕ) → IsBalanced count (after_read board place weight known ledger)
  keeps-read ledger =
      let told : Known = after_reading known ledger (get_or board.words (word_of ledger) 0) in record {
        shared = learns h.shared place weight known told mine;
        sized = h.sized;
        balanced = λ other below.
            let total = total-set (at other) board.views place (held weight known) (held weight told) mine in
            let kept : sum_of_shares other board.views ≡ sum_of_shares other (set board.views place (held weight told)) = omega arith in
            h.balanced other below ∙ ap (λ n. n % 2 ^ 64) kept;
      }

  pub keeps-split : IsBalanced count (after_split board place weight known)
  keeps-split =
      let left : Token Known = first_share (held weight known) in let right : Token Known = second_share (held weight known) in record {
        shared = splits h.shared place weight known known (blank (length known.sums)) mine;
        sized = h.sized;
        balanced = λ ledger below.
            let one = total-set (at ledger) board.views place (held weight known) left mine in
            let two = total-snoc (at ledger) (set board.views place left) right in
            let none_yet = zeros-at (length known.sums) ledger in
            let kept : sum_of_shares ledger board.views ≡ sum_of_shares ledger (set board.views place left ++ right ∷ []) = omega arith in
            h.balanced ledger below ∙ ap (λ n. n % 2 ^ 64) kept;
      }

  pub keeps-join : (other added : ℕ) (others : Known) → other ≢ place → get_elem? board.views other ≡ some (held added others)
      → IsBalanced count (after_join board place weight known other added others)
  keeps-join other added others apart there =
      let both : Token Known = joined_share (held weight known) (held added others) in
      let from = set_else board.views place other both apart ∙ there in record {
        shared = joins h.shared place other weight added known others (after_joining known others) mine apart there;
        sized = h.sized;
        balanced = λ ledger below.
            let one = total-set (at ledger) board.views place (held weight known) both mine in
            let two = total-set (at ledger) (set board.views place both) other (held added others) (spent (blank 0)) from in
            let sum = plus-at known.sums others.sums ledger in
            let kept : sum_of_shares ledger board.views ≡ sum_of_shares ledger (set (set board.views place both) other (spent (blank 0))) = omega arith in
            h.balanced ledger below ∙ ap (λ n. n % 2 ^ 64) kept;
      }

-- a whole share's own sum is that of all shares
whole-sum : (count : ℕ) (board : Board) → IsBalanced count board → (place : ℕ) (known : Known) → get_elem? board.views place ≡ some (held whole known) → (ledger : ℕ) → ledger < count
    → get_or board.words (word_of ledger) 0 ≡ get_or known.sums ledger 0 % 2 ^ 64
whole-sum count board h place known mine ledger below =
    h.balanced ledger below ∙ ap (λ n. n % 2 ^ 64) (whole-total (blank 0) (at ledger) refl h.shared place (held whole known) mine refl)

-- so each step is allowed
module _ (count : ℕ) where
  pub adds : (slots id word ledger amount weight : ℕ) (known : Known) → word ≡ word_of ledger → ledger < count → length known.sums ≡ count
      → Allows (IsBalanced count) slots id (held weight known, []) word (λ n. (n + amount) % 2 ^ 64) (Adds (step slots word amount 0 none) (held weight known, []))
  adds slots id word ledger amount weight known there inside long s h _ mine _ = (
    held weight (after_adding known ledger amount),
    keeps,
    tt,
    subst (λ w. IsBalanced count (record { words = set s.words w ((get_or s.words w 0 + amount) % 2 ^ 64); homes = s.homes; views = set s.views id (held weight (after_adding known ledger amount)) })) (sym there)
        (keeps-add count s h id weight known mine ledger amount inside long),
    λ other elsewhere. ap (λ k. (held weight (after_adding known k amount), [])) (let here : word ≡ word_of other = elsewhere in let same : ledger ≡ other = omega arith in same),
  )

  pub reads : (slots id word ledger weight : ℕ) (known : Known) → word ≡ word_of ledger → length known.sums ≡ count
      → Allows (IsBalanced count) slots id (held weight known, []) word (λ n. n) (Reads (step slots word 0 0 none) (held weight known, []))
  reads slots id word ledger weight known there long s h _ mine _ =
      let told : Known = after_reading known ledger (get_or s.words word 0) in (
        held weight told,
        keeps,
        tt,
        subst (λ ws. IsBalanced count (record { words = ws; homes = s.homes; views = set s.views id (held weight told) })) (sym (set-get_or s.words word 0))
            (subst (λ w. IsBalanced count (record { words = s.words; homes = s.homes; views = set s.views id (held weight (after_reading known ledger (get_or s.words w 0))) })) (sym there)
            (keeps-read count s h id weight known mine ledger)),
        λ other elsewhere. let here : word ≡ word_of other = elsewhere in let same : ledger ≡ other = omega arith in (
          ap (λ k. (held weight (after_reading known k (get_or s.words word 0)), [])) same,
          λ all below. ap (λ i. get_or s.words i 0) here
              ∙ whole-sum count s h id known (mine ∙ ap (λ w. some (held w known)) all) other (subst (λ n. other < n) long below),
        ),
      )

  pub deals : (id weight : ℕ) (known : Known) → Splits (IsBalanced count) id (held weight known) (first_share (held weight known)) (second_share (held weight known))
  deals id weight known s h mine = keeps-split count s h id weight known mine

  pub gathers : (id weight : ℕ) (known : Known) (other added : ℕ) (others : Known)
      → Joins (IsBalanced count) id (held weight known) other (held added others) (joined_share (held weight known) (held added others)) (spent (blank 0))
  gathers id weight known other added others s h mine apart from =
      keeps-join count s h id weight known mine other added others apart (sym (set_else s.views id other (joined_share (held weight known) (held added others)) apart) ∙ from)

  -- a whole share's sums are the words, modulo 2^64
  pub settles : (id : ℕ) (known : Known) (words : List ℕ) (slots : List (Unit {0})) → Final (Seen (IsBalanced count) id (held whole known)) words slots → (ledger found : ℕ) → ledger < count → get_elem? words (word_of ledger) ≡ some found
      → found ≡ get_or known.sums ledger 0 % 2 ^ 64
  settles id known words slots f ledger found below there = let s = f.0 in let h = f.1.0 in
      sym (get_or-at words (word_of ledger) found there) ∙ ap (λ ws. get_or ws (word_of ledger) 0) (sym f.2)
      ∙ whole-sum count s h id known f.1.1 ledger below
