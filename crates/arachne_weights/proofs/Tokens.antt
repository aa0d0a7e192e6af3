-- Properties of all lists of tokens that are possible.
use Rattle.std.proofs.Common.{◌≡◌, ◌≢◌, ◌⊎◌, ℕ, zero, suc, ◌+◌, ◌<◌, ◌≤◌, Bool, true, false, true≢false, List, [], ◌∷◌, ◌++◌, set, sym, refl, ap, ◌∙◌, subst, inl, inr, ⊎_elim, arith}
use Rattle.std.specs.List.{sum_by}
use Rattle.std.proofs.lemmas.Bool.Decides.{nat_tests}
use mathlib.Core.Option.{some, some-injective, some-ne-none}
use lib.ListN.{get_elem?}
use Rattle.arachne_weights.specs.{declared.token.Token.Token, Weight.{whole, first_part, second_part, joined}}
use Rattle.arachne_weights.specs.Tokens.{held, spent, total_weight, IsReachable, begins, learns, splits, joins}
use Rattle.arachne_weights.proofs.Totals.{total-set, total-snoc, at-le-total, two-le-total, total-alone}

-- a property of each item of a list
abbrev EachAt : {X : Type 0} → (X → Type 0) → List X → Type 0
EachAt {X} P xs = (i : ℕ) (x : X) → get_elem? xs i ≡ some x → P x

module _ {X : Type 0} (P : X → Type 0) where
  each-one : (y : X) → P y → EachAt P (y ∷ [])
  each-one y p zero x e = subst P (some-injective y x e) p
  each-one y p (suc j) x e = absurd (some-ne-none x (sym e))

  each-set : (xs : List X) (i : ℕ) (y : X) → P y → EachAt P xs → EachAt P (set xs i y)
  each-set [] i y p old j x e = old j x e
  each-set (z ∷ xs) zero y p old zero x e = subst P (some-injective y x e) p
  each-set (z ∷ xs) zero y p old (suc j) x e = old (suc j) x e
  each-set (z ∷ xs) (suc i) y p old zero x e = old zero x e
  each-set (z ∷ xs) (suc i) y p old (suc j) x e = each-set xs i y p (λ k u d. old (suc k) u d) j x e

  each-snoc : (xs : List X) (y : X) → P y → EachAt P xs → EachAt P (xs ++ y ∷ [])
  each-snoc [] y p old zero x e = subst P (some-injective y x e) p
  each-snoc [] y p old (suc j) x e = absurd (some-ne-none x (sym e))
  each-snoc (z ∷ xs) y p old zero x e = old zero x e
  each-snoc (z ∷ xs) y p old (suc j) x e = each-snoc xs y p (λ k u d. old (suc k) u d) j x e

at-set-else : {X : Type 0} (xs : List X) (i j : ℕ) (y : X) → j ≢ i → get_elem? (set xs i y) j ≡ get_elem? xs j
at-set-else [] i j y n = refl
at-set-else (z ∷ xs) zero zero y n = absurd (n refl)
at-set-else (z ∷ xs) zero (suc j) y n = refl
at-set-else (z ∷ xs) (suc i) zero y n = refl
at-set-else (z ∷ xs) (suc i) (suc j) y n = at-set-else xs i j y (λ e. n (ap suc e))

live_or_not : (b : Bool) → (b ≡ true) ⊎ (b ≡ false)
live_or_not true = inl refl
live_or_not false = inr refl

-- the parts of a weight are together at most the weight; if nothing is lost, each part is above 0
parts-within : (w : ℕ) → first_part w + second_part w ≤ w
parts-within w = grind (arith, nat_tests)

parts-some : (w : ℕ) → 0 < w → w ≤ first_part w + second_part w → (0 < first_part w) × (0 < second_part w)
parts-some w some_weight kept = (grind (arith, nat_tests), grind (arith, nat_tests))

joined-exact : (w x : ℕ) → w + x ≤ whole → joined w x ≡ w + x
joined-exact w x room = omega arith

module _ {K : Type 0} (nothing : K) where
  abbrev HasWeight : Token K → Type 0
  HasWeight t = t.live ≡ true → 0 < t.weight

  abbrev IsSpentOrLive : Token K → Type 0
  IsSpentOrLive t = t.live ≡ false → t ≡ spent nothing

  -- The tokens have at most the whole weight. If none of it was lost, each live token has some. Each token that isn't
  -- live is spent.
  record IsSound (tokens : List (Token K)) : Type 0 where
    pub within : total_weight tokens ≤ whole
    pub weighted : total_weight tokens ≡ whole → EachAt HasWeight tokens
    pub idle : EachAt IsSpentOrLive tokens

  is_live : (w : ℕ) (k : K) → IsSpentOrLive (held w k)
  is_live w k e = absurd (true≢false e)

  sound-begins : (k : K) → IsSound (held whole k ∷ [])
  sound-begins k = record {
    within = omega arith;
    weighted = λ _. each-one HasWeight (held whole k) (λ _. omega arith);
    idle = each-one IsSpentOrLive (held whole k) (is_live whole k);
  }

  sound-learns : (tokens : List (Token K)) → IsSound tokens → (i w : ℕ) (before after : K) → get_elem? tokens i ≡ some (held w before) → IsSound (set tokens i (held w after))
  sound-learns tokens s i w before after at = let total = total-set (λ (t : Token K). t.weight) tokens i (held w before) (held w after) at in record {
    within = omega (arith, s.within);
    weighted = λ full. let was = s.weighted (omega arith) in each-set HasWeight tokens i (held w after) (was i (held w before) at) was;
    idle = each-set IsSpentOrLive tokens i (held w after) (is_live w after) s.idle;
  }

  sound-splits : (tokens : List (Token K)) → IsSound tokens → (i w : ℕ) (before first second : K) → get_elem? tokens i ≡ some (held w before)
      → IsSound (set tokens i (held (first_part w) first) ++ held (second_part w) second ∷ [])
  sound-splits tokens s i w before first second at =
      let left : Token K = held (first_part w) first in let right : Token K = held (second_part w) second in
      let one = total-set (λ (t : Token K). t.weight) tokens i (held w before) left at in
      let two = total-snoc (λ (t : Token K). t.weight) (set tokens i left) right in
      let kept = parts-within w in record {
        within = omega (arith, s.within);
        weighted = λ full. let was = s.weighted (omega (arith, s.within)) in let parts = parts-some w (was i (held w before) at refl) (omega (arith, s.within)) in
            each-snoc HasWeight (set tokens i left) right (λ _. parts.1) (each-set HasWeight tokens i left (λ _. parts.0) was);
        idle = each-snoc IsSpentOrLive (set tokens i left) right (is_live (second_part w) second) (each-set IsSpentOrLive tokens i left (is_live (first_part w) first) s.idle);
      }

  sound-joins : (tokens : List (Token K)) → IsSound tokens → (i j w x : ℕ) (mine other both : K) → get_elem? tokens i ≡ some (held w mine) → j ≢ i → get_elem? tokens j ≡ some (held x other)
      → IsSound (set (set tokens i (held (joined w x) both)) j (spent nothing))
  sound-joins tokens s i j w x mine other both at n from =
      let made : Token K = held (joined w x) both in
      let from' : get_elem? (set tokens i made) j ≡ some (held x other) = at-set-else tokens i j made n ∙ from in
      let one = total-set (λ (t : Token K). t.weight) tokens i (held w mine) made at in
      let two = total-set (λ (t : Token K). t.weight) (set tokens i made) j (held x other) (spent nothing) from' in
      let room = two-le-total (λ (t : Token K). t.weight) tokens i j (held w mine) (held x other) at n from in
      let exact = joined-exact w x (omega (arith, s.within)) in record {
        within = omega (arith, s.within);
        weighted = λ full. let was = s.weighted (omega (arith, s.within)) in let some_weight = was i (held w mine) at refl in
            each-set HasWeight (set tokens i made) j (spent nothing) (λ e. absurd (true≢false (sym e))) (each-set HasWeight tokens i made (λ _. omega arith) was);
        idle = each-set IsSpentOrLive (set tokens i made) j (spent nothing) (λ _. refl) (each-set IsSpentOrLive tokens i made (is_live (joined w x) both) s.idle);
      }

  sound : {tokens : List (Token K)} → IsReachable nothing tokens → IsSound tokens
  sound (begins k) = sound-begins k
  sound (learns {tokens} r i w before after at) = sound-learns tokens (sound r) i w before after at
  sound (splits {tokens} r i w before first second at) = sound-splits tokens (sound r) i w before first second at
  sound (joins {tokens} r i j w x mine other both at n from) = sound-joins tokens (sound r) i j w x mine other both at n from

  -- the tokens have at most the whole weight
  pub weight-within : {tokens : List (Token K)} → IsReachable nothing tokens → total_weight tokens ≤ whole
  weight-within r = (sound r).within

  -- if one has the whole weight, each other is spent
  pub whole-alone : {tokens : List (Token K)} → IsReachable nothing tokens → (i j : ℕ) (t u : Token K) → get_elem? tokens i ≡ some t → t.weight ≡ whole → j ≢ i → get_elem? tokens j ≡ some u → u ≡ spent nothing
  whole-alone {tokens} r i j t u at all n from = let s = sound r in
      let one = at-le-total (λ (t : Token K). t.weight) tokens i t at in
      let two = two-le-total (λ (t : Token K). t.weight) tokens i j t u at n from in
      ⊎_elim (λ live. let some_weight = s.weighted (omega (arith, s.within)) j u from live in absurd (omega (arith, s.within))) (λ not. s.idle j u from not) (live_or_not u.live)

  -- so the total of a number over the tokens is that of this one
  pub whole-total : (f : Token K → ℕ) → f (spent nothing) ≡ 0 → {tokens : List (Token K)} → IsReachable nothing tokens → (i : ℕ) (t : Token K) → get_elem? tokens i ≡ some t → t.weight ≡ whole → sum_by f tokens ≡ f t
  whole-total f none {tokens} r i t at all = total-alone f tokens i t at (λ j u n from. ap f (whole-alone r i j t u at all n from) ∙ none)
