-- One seat has learned something: the effect on what seats carry, and on totals.
use Rattle.std.proofs.Common.{◌≡◌, ℕ, ◌+◌, Bool, true, false, cond, List, ◌∷◌, set, sym, ap, ◌∙◌, arith, inl, inr, count_by}
use Rattle.std.{specs.List.sum_by, proofs.lemmas.List.Sums.sum_by-cons}
use Rattle.std.proofs.lemmas.Bool.{cases_eq, cond-true, cond-false, cases_Bool}
use mathlib.Core.Option.{some}
use lib.ListN.{get_elem?}
use Rattle.arachne_core.specs.World.{Thread, same_thread, with_thread}
use Rattle.arachne_weights.{specs.{declared.token.Token.Token, Tokens.held}, proofs.Totals.total-set}
use Rattle.arachne_rule.{proofs.Carrying.{known-there, known-set, known-else}, specs.declared.view.Known.Known}
use Rattle.arachne_rule.specs.{Views.{known_at, carried_at, given_in, ended_in}, declared.view.Carried.Carried}

pub more-threads : (t u : Thread) (ts : List Thread) → count_by (same_thread t) (u ∷ ts) ≡ cond (same_thread t u) (count_by (same_thread t) ts + 1) (count_by (same_thread t) ts)
more-threads t u ts =
    let all = sum_by-cons (λ (v : Thread). cond (same_thread t v) 1 0) u ts in
    elim (cases_Bool (same_thread t u)) [
      | inl e ↦ let one = cond-true {A = ℕ} (same_thread t u) 1 0 e in let two = cond-true (same_thread t u) (count_by (same_thread t) ts + 1) (count_by (same_thread t) ts) e in omega arith
      | inr e ↦ let one = cond-false {A = ℕ} (same_thread t u) 1 0 e in let two = cond-false (same_thread t u) (count_by (same_thread t) ts + 1) (count_by (same_thread t) ts) e in omega arith
    ]

lifted-cond : (q : Bool) (a b c d : ℕ) → a + b ≡ c + cond q (b + 1) b → a ≡ cond q (c + 1) c
lifted-cond true a b c d e = omega arith
lifted-cond false a b c d e = omega arith

module _ (vs : List (Token Known)) (h weight : ℕ) (before after : Known) (mine : get_elem? vs h ≡ some (held weight before)) where
  abbrev pub learned : List (Token Known)
  learned = set vs h (held weight after)

  pub learned-else : (y : ℕ) → carried_at y after.carried ≡ carried_at y before.carried → (k : ℕ) → carried_at y (known_at learned k).carried ≡ carried_at y (known_at vs k).carried
  learned-else y e k = elim (cases_eq k h) [
    | inl f ↦ ap (λ (j : ℕ). carried_at y (known_at learned j).carried) f
        ∙ ap (λ (r : Known). carried_at y r.carried) (known-set vs h (held weight before) (held weight after) mine) ∙ e
        ∙ sym (ap (λ (r : Known). carried_at y r.carried) (known-there vs h (held weight before) mine))
        ∙ sym (ap (λ (j : ℕ). carried_at y (known_at vs j).carried) f)
    | inr n ↦ ap (λ (r : Known). carried_at y r.carried) (known-else vs h k (held weight after) n)
  ]

  pub learned-here : (x : ℕ) (share : ℕ → List Carried) → carried_at x after.carried ≡ share h → ((k : ℕ) → (k ≡ h → ⊥) → carried_at x (known_at vs k).carried ≡ share k)
      → (k : ℕ) → carried_at x (known_at learned k).carried ≡ share k
  learned-here x share e others k = elim (cases_eq k h) [
    | inl f ↦ ap (λ (j : ℕ). carried_at x (known_at learned j).carried) f
        ∙ ap (λ (r : Known). carried_at x r.carried) (known-set vs h (held weight before) (held weight after) mine) ∙ e ∙ ap share (sym f)
    | inr n ↦ ap (λ (r : Known). carried_at x r.carried) (known-else vs h k (held weight after) n) ∙ others k n
  ]

  -- the number of times that all seats have a thread in one of their lists, as in what they have posted or ended
  abbrev times : (Known → List Thread) → Thread → List (Token Known) → ℕ
  times of t views = sum_by (λ (v : Token Known). count_by (same_thread t) (of v.known)) views

  total-times : (of : Known → List Thread) (t : Thread) → times of t learned + count_by (same_thread t) (of before) ≡ times of t vs + count_by (same_thread t) (of after)
  total-times of t = total-set (λ (v : Token Known). count_by (same_thread t) (of v.known)) vs h (held weight before) (held weight after) mine

  times-same : (of : Known → List Thread) → of after ≡ of before → (t : Thread) → times of t vs ≡ times of t learned
  times-same of e t =
      let total = total-times of t in
      let same : count_by (same_thread t) (of after) ≡ count_by (same_thread t) (of before) = ap (count_by (same_thread t)) e in omega arith

  times-more : (of : Known → List Thread) (g : Thread → ℕ) (u : Thread) → ((t : Thread) → g t ≡ times of t vs) → of after ≡ u ∷ of before → (t : Thread) → with_thread g u t ≡ times of t learned
  times-more of g u was e t =
      let more : count_by (same_thread t) (of after) ≡ cond (same_thread t u) (count_by (same_thread t) (of before) + 1) (count_by (same_thread t) (of before)) =
      ap (count_by (same_thread t)) e ∙ more-threads t u (of before) in
      ap (λ (n : ℕ). cond (same_thread t u) (n + 1) n) (was t)
      ∙ sym (lifted-cond (same_thread t u) (times of t learned) (count_by (same_thread t) (of before)) (times of t vs) 0 (total-times of t ∙ ap (λ (n : ℕ). times of t vs + n) more))

  pub given-same : after.given ≡ before.given → (t : Thread) → given_in t vs ≡ given_in t learned
  given-same = times-same (λ (k : Known). k.given)

  pub ended-same : after.ended ≡ before.ended → (t : Thread) → ended_in t vs ≡ ended_in t learned
  ended-same = times-same (λ (k : Known). k.ended)

  pub given-more : (g : Thread → ℕ) (u : Thread) → ((t : Thread) → g t ≡ given_in t vs) → after.given ≡ u ∷ before.given → (t : Thread) → with_thread g u t ≡ given_in t learned
  given-more = times-more (λ (k : Known). k.given)

  pub ended-more : (g : Thread → ℕ) (u : Thread) → ((t : Thread) → g t ≡ ended_in t vs) → after.ended ≡ u ∷ before.ended → (t : Thread) → with_thread g u t ≡ ended_in t learned
  ended-more = times-more (λ (k : Known). k.ended)
