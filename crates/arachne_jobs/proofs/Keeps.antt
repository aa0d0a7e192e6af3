-- Each step keeps the balance.
use Rattle.std.proofs.Common.{◌≡◌, ◌≢◌, ℕ, ◌+◌, ◌==◌, if◌then◌else◌, List, [], ◌∷◌, ◌++◌, map, length, set, sym, refl, ap, ◌∙◌, arith}
use Rattle.std.proofs.lemmas.List.{map-append, length-map, Sums.{sum_by-append, sum_by-cons, sum_by_push}}
use mathlib.Core.Option.{some}
use lib.ListN.{get_elem?}
use Rattle.crossbeam_queue.{specs.Fifo.{Pushes, Pops, Forks, Merges, Learns}, proofs.Lists.set_else}
use Rattle.arachne_weights.specs.{declared.token.Token.Token, Weight.whole}
use Rattle.arachne_weights.{specs.Tokens.{held, spent, begins, learns, splits, joins}, proofs.Tokens.whole-total}
use Rattle.arachne_weights.proofs.Totals.{total-set, total-snoc}
use Rattle.arachne_jobs.{specs.declared.spill.Known.Known, proofs.Counts.added-length}
use Rattle.arachne_jobs.specs.Balance.{blank, times, IsBalanced, IsMoment, opening_pass, after_pushing, after_popping, after_joining, first_pass, second_pass, joined_pass, after_push, after_pop, after_split, after_join, Pushed, Popped}

abbrev ins : ℕ → Token Known → ℕ
ins tag t = times tag t.known.pushed

abbrev outs : ℕ → Token Known → ℕ
outs tag t = times tag t.known.popped

module _ {T : Type 0} (tag_of : T → ℕ) where
  pub opens : IsBalanced tag_of [] (opening_pass ∷ [])
  opens = record { shared = begins blank; balanced = λ tag. refl }

  module _ (passes : List (Token Known)) (place weight : ℕ) (known : Known) (mine : get_elem? passes place ≡ some (held weight known)) where
    pub keeps-push : (items : List T) → IsBalanced tag_of items passes → (item : T) → IsBalanced tag_of (items ++ item ∷ []) (after_push passes place weight known (tag_of item))
    keeps-push items h item =
        let more : Token Known = held weight (after_pushing known (tag_of item)) in record {
          shared = learns h.shared place weight known (after_pushing known (tag_of item)) mine;
          balanced = λ tag.
              let one = total-set (ins tag) passes place (held weight known) more mine in
              let two = total-set (outs tag) passes place (held weight known) more mine in
              let grown = sum_by_push (λ (other : ℕ). if other == tag then 1 else 0) known.pushed (tag_of item) in
              let left = sum_by_push (λ (other : ℕ). if other == tag then 1 else 0) (map tag_of items) (tag_of item) in
              let same = ap (times tag) (map-append tag_of items (item ∷ [])) in
              omega (arith, h.balanced tag);
        }

    pub keeps-pop : (item : T) (items : List T) → IsBalanced tag_of (item ∷ items) passes → IsBalanced tag_of items (after_pop passes place weight known (tag_of item))
    keeps-pop item items h =
        let more : Token Known = held weight (after_popping known (tag_of item)) in record {
          shared = learns h.shared place weight known (after_popping known (tag_of item)) mine;
          balanced = λ tag.
              let one = total-set (ins tag) passes place (held weight known) more mine in
              let two = total-set (outs tag) passes place (held weight known) more mine in
              let grown = sum_by_push (λ (other : ℕ). if other == tag then 1 else 0) known.popped (tag_of item) in
              let first = sum_by-cons (λ (other : ℕ). if other == tag then 1 else 0) (tag_of item) (map tag_of items) in
              omega (arith, h.balanced tag);
        }

    pub keeps-split : (items : List T) → IsBalanced tag_of items passes → IsBalanced tag_of items (after_split passes place weight known)
    keeps-split items h =
        let left : Token Known = first_pass (held weight known) in let right : Token Known = second_pass (held weight known) in record {
          shared = splits h.shared place weight known known blank mine;
          balanced = λ tag.
              let one = total-set (ins tag) passes place (held weight known) left mine in
              let two = total-set (outs tag) passes place (held weight known) left mine in
              let three = total-snoc (ins tag) (set passes place left) right in
              let four = total-snoc (outs tag) (set passes place left) right in
              omega (arith, h.balanced tag);
        }

    pub keeps-join : (items : List T) → IsBalanced tag_of items passes → (other added : ℕ) (others : Known) → other ≢ place → get_elem? passes other ≡ some (held added others)
        → IsBalanced tag_of items (after_join passes place weight known other added others)
    keeps-join items h other added others apart there =
        let both : Token Known = joined_pass (held weight known) (held added others) in
        let from = set_else passes place other both apart ∙ there in record {
          shared = joins h.shared place other weight added known others (after_joining known others) mine apart there;
          balanced = λ tag.
              let one = total-set (ins tag) passes place (held weight known) both mine in
              let two = total-set (outs tag) passes place (held weight known) both mine in
              let three = total-set (ins tag) (set passes place both) other (held added others) (spent blank) from in
              let four = total-set (outs tag) (set passes place both) other (held added others) (spent blank) from in
              let five = sum_by-append (λ (n : ℕ). if n == tag then 1 else 0) known.pushed others.pushed in
              let six = sum_by-append (λ (n : ℕ). if n == tag then 1 else 0) known.popped others.popped in
              omega (arith, h.balanced tag);
        }

  -- so each step is allowed
  pub pushes : (n place weight : ℕ) (known : Known) (item : T) → Pushes (IsBalanced tag_of) n place (held weight known) item (Pushed tag_of (held weight known) item)
  pushes n place weight known item items passes room h mine = (held weight (after_pushing known (tag_of item)), keeps-push passes place weight known mine items h item, refl)

  pub pops : (place weight : ℕ) (known : Known) → Pops (IsBalanced tag_of) place (held weight known) (Popped tag_of (held weight known))
  pops place weight known item items passes h mine = (held weight (after_popping known (tag_of item)), keeps-pop passes place weight known mine item items h, refl)

  pub deals : (place weight : ℕ) (known : Known) → Forks (IsBalanced tag_of) place (held weight known) (first_pass (held weight known)) (second_pass (held weight known))
  deals place weight known items passes h mine = keeps-split passes place weight known mine items h

  pub gathers : (place weight : ℕ) (known : Known) (other added : ℕ) (others : Known)
      → Merges (IsBalanced tag_of) place (held weight known) other (held added others) (joined_pass (held weight known) (held added others)) (spent blank)
  gathers place weight known other added others items passes h mine apart from =
      keeps-join passes place weight known mine items h other added others apart (sym (set_else passes place other (joined_pass (held weight known) (held added others)) apart) ∙ from)

  pub sees : (place : ℕ) (mine : Token Known) → Learns (IsBalanced tag_of) place mine (IsMoment tag_of mine)
  sees place mine items passes h among = record { passes = passes; place = place; among = among; rule = h }

  -- what a whole pass has pushed is what it has popped and what is left
  pub whole-balance : (known : Known) (items : List T) → IsMoment tag_of (held whole known) items → (tag : ℕ) → times tag known.pushed ≡ times tag known.popped + times tag (map tag_of items)
  whole-balance known items m tag =
      let one = whole-total blank (ins tag) refl m.rule.shared m.place (held whole known) m.among refl in
      let two = whole-total blank (outs tag) refl m.rule.shared m.place (held whole known) m.among refl in
      omega (arith, m.rule.balanced tag)

  -- so where nothing was left, all came out
  pub all-out : (known : Known) (items : List T) → length items ≡ 0 → IsMoment tag_of (held whole known) items → (tag : ℕ) → times tag known.pushed ≡ times tag known.popped
  all-out known [] none m tag = omega (arith, whole-balance known [] m tag)
  all-out known (item ∷ items) none m tag = absurd (omega arith)

  -- and as many more were pushed than popped as were left
  pub ahead : (known : Known) (items : List T) → IsMoment tag_of (held whole known) items → length known.pushed ≡ length known.popped + length items
  ahead known items m = added-length known.pushed known.popped (map tag_of items) (whole-balance known items m) ∙ ap (λ n. length known.popped + n) (length-map items tag_of)
