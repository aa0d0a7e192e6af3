-- The invariant of the queue: its items, and what was pushed and popped with its passes.
use Rattle.std.specs.{Prelude.{◌≡◌, ℕ, ◌+◌, ◌==◌, List, [], ◌∷◌, ◌++◌, map, slice_set, if◌then◌else◌}, List.sum_by}
use mathlib.Core.Option.{some}
use lib.ListN.{get_elem?}
use Rattle.arachne_weights.specs.{declared.token.Token.Token, Tokens.{held, spent, IsReachable}}
use Rattle.arachne_weights.specs.Weight.{whole, first_part, second_part, joined}
use Rattle.arachne_jobs.specs.declared.spill.Known.{Known}

-- a pass that has pushed and popped nothing
abbrev pub blank : Known
blank = record { pushed = []; popped = [] }

-- the number of times that a tag is in a list
abbrev pub times : ℕ → List ℕ → ℕ
times tag tags = sum_by (λ (other : ℕ). if other == tag then 1 else 0) tags

abbrev pub pushed_by_all : ℕ → List (Token Known) → ℕ
pushed_by_all tag passes = sum_by (λ (t : Token Known). times tag t.known.pushed) passes

abbrev pub popped_by_all : ℕ → List (Token Known) → ℕ
popped_by_all tag passes = sum_by (λ (t : Token Known). times tag t.known.popped) passes

-- the invariant: for each tag, as many items were pushed as were popped or are in the queue
pub record IsBalanced {T : Type 0} (tag_of : T → ℕ) (items : List T) (passes : List (Token Known)) : Type 0 where
  pub shared : IsReachable blank passes
  pub balanced : (tag : ℕ) → pushed_by_all tag passes ≡ popped_by_all tag passes + times tag (map tag_of items)

-- the first pass: it has the whole weight, and has pushed and popped nothing
abbrev pub opening_pass : Token Known
opening_pass = held whole blank

-- the record of a pass after it has pushed an item with this tag; below, after it has popped one
abbrev pub after_pushing : Known → ℕ → Known
after_pushing known tag = record known { pushed = known.pushed ++ tag ∷ [] }

abbrev pub after_popping : Known → ℕ → Known
after_popping known tag = record known { popped = known.popped ++ tag ∷ [] }

abbrev pub after_joining : Known → Known → Known
after_joining known other = record { pushed = known.pushed ++ other.pushed; popped = known.popped ++ other.popped }

-- the first of two passes after a split, which keeps the record; below, the second
abbrev pub first_pass : Token Known → Token Known
first_pass t = held (first_part t.weight) t.known

abbrev pub second_pass : Token Known → Token Known
second_pass t = held (second_part t.weight) blank

abbrev pub joined_pass : Token Known → Token Known → Token Known
joined_pass t u = held (joined t.weight u.weight) (after_joining t.known u.known)

-- all passes after an operation of the pass at index `place`
abbrev pub after_push : List (Token Known) → ℕ → ℕ → Known → ℕ → List (Token Known)
after_push passes place weight known tag = slice_set passes place (held weight (after_pushing known tag))

abbrev pub after_pop : List (Token Known) → ℕ → ℕ → Known → ℕ → List (Token Known)
after_pop passes place weight known tag = slice_set passes place (held weight (after_popping known tag))

abbrev pub after_split : List (Token Known) → ℕ → ℕ → Known → List (Token Known)
after_split passes place weight known = slice_set passes place (first_pass (held weight known)) ++ second_pass (held weight known) ∷ []

-- all passes after the one at index `other` was joined into the one at index `place`
abbrev pub after_join : List (Token Known) → ℕ → ℕ → Known → ℕ → ℕ → Known → List (Token Known)
after_join passes place weight known other added others = slice_set (slice_set passes place (joined_pass (held weight known) (held added others))) other (spent blank)

-- true if the pass has only recorded one more item pushed; below, popped
abbrev pub Pushed : {T : Type 0} → (T → ℕ) → Token Known → T → Token Known → Type 0
Pushed tag_of old item new = new ≡ held old.weight (after_pushing old.known (tag_of item))

abbrev pub Popped : {T : Type 0} → (T → ℕ) → Token Known → T → Token Known → Type 0
Popped tag_of old item new = new ≡ held old.weight (after_popping old.known (tag_of item))

-- true if the queue has held these items at a moment at which the invariant held for all passes, with this one
pub record IsMoment {T : Type 0} (tag_of : T → ℕ) (mine : Token Known) (items : List T) : Type 0 where
  pub passes : List (Token Known)
  pub place : ℕ
  pub among : get_elem? passes place ≡ some mine
  pub rule : IsBalanced tag_of items passes
