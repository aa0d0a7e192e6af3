-- The tokens of one shared object: the weight and knowledge of each holder, and how tokens are made and joined.
use Rattle.std.specs.{Prelude.{◌≡◌, ◌≢◌, ℕ, true, false, List, [], ◌∷◌, ◌++◌, slice_set}, List.sum_by}
use mathlib.Core.Option.{some}
use lib.ListN.{get_elem?}
use Rattle.arachne_weights.specs.{declared.token.Token.Token, Weight.{whole, first_part, second_part, joined}}

module _ {K : Type 0} where
  -- a token in use, with a weight and its holder's knowledge
  abbrev pub held : ℕ → K → Token K
  held w k = record { live = true; weight = w; known = k }

  -- a token that was joined into another
  abbrev pub spent : K → Token K
  spent nothing = record { live = false; weight = 0; known = nothing }

  abbrev pub total_weight : List (Token K) → ℕ
  total_weight tokens = sum_by (λ (t : Token K). t.weight) tokens

  -- The lists of tokens that are possible. At first one token has the whole weight. Then, one step after another, a
  -- holder learns something, splits its token in two, or takes in another token. A new token is appended.
  pub data IsReachable (nothing : K) : List (Token K) → Type 0 where
    begins : (k : K) → IsReachable nothing (held whole k ∷ [])
    learns : {tokens : List (Token K)} → IsReachable nothing tokens → (i w : ℕ) (before after : K) → get_elem? tokens i ≡ some (held w before)
        → IsReachable nothing (slice_set tokens i (held w after))
    splits : {tokens : List (Token K)} → IsReachable nothing tokens → (i w : ℕ) (before first second : K) → get_elem? tokens i ≡ some (held w before)
        → IsReachable nothing (slice_set tokens i (held (first_part w) first) ++ held (second_part w) second ∷ [])
    joins : {tokens : List (Token K)} → IsReachable nothing tokens → (i j w x : ℕ) (mine other both : K) → get_elem? tokens i ≡ some (held w mine) → j ≢ i → get_elem? tokens j ≡ some (held x other)
        → IsReachable nothing (slice_set (slice_set tokens i (held (joined w x) both)) j (spent nothing))
