-- How many seats have a number in a field of what they know, after one has changed it.
use Rattle.std.proofs.Common.{◌≡◌, ◌≢◌, ℕ, ◌+◌, List, set, ap, ◌∙◌, arith}
use mathlib.Core.Option.{some}
use lib.ListN.{get_elem?}
use Rattle.arachne_weights.specs.declared.token.Token.{Token}
use Rattle.arachne_weights.proofs.Totals.{total-set}
use Rattle.arachne_exec.specs.{declared.view.Notes.Notes, Board.{one, by_all}}
use Rattle.arachne_exec.proofs.Bits.{one-apart}

module _ (f : Notes → ℕ) (views : List (Token Notes)) (h : ℕ) (v u : Token Notes) (mine : get_elem? views h ≡ some v) where
  abbrev seats_with : ℕ → List (Token Notes) → ℕ
  seats_with c vs = by_all (λ (k : Notes). one (f k) (c + 1)) vs

  pub with-same : f u.known ≡ f v.known → (c : ℕ) → seats_with c (set views h u) ≡ seats_with c views
  with-same e c = let total = total-set (λ (t : Token Notes). one (f t.known) (c + 1)) views h v u mine in let same = ap (λ n. one n (c + 1)) e in omega (arith, total, same)

  -- who had none has one
  pub with-more : (d : ℕ) → f v.known ≡ 0 → f u.known ≡ d + 1 → (c : ℕ) → seats_with c (set views h u) ≡ seats_with c views + one (d + 1) (c + 1)
  with-more d was now c =
      let total = total-set (λ (t : Token Notes). one (f t.known) (c + 1)) views h v u mine in
      let before = ap (λ n. one n (c + 1)) was ∙ one-apart 0 (c + 1) (λ e. omega (arith, e)) in let after = ap (λ n. one n (c + 1)) now in omega (arith, total, before, after)

  -- who had one has none
  pub with-less : (d : ℕ) → f v.known ≡ d + 1 → f u.known ≡ 0 → (c : ℕ) → seats_with c (set views h u) + one (d + 1) (c + 1) ≡ seats_with c views
  with-less d was now c =
      let total = total-set (λ (t : Token Notes). one (f t.known) (c + 1)) views h v u mine in
      let before = ap (λ n. one n (c + 1)) was in
      let after = ap (λ n. one n (c + 1)) now ∙ one-apart 0 (c + 1) (λ e. omega (arith, e)) in omega (arith, total, before, after)

  -- others have as many
  pub with-others : (d : ℕ) → f v.known ≡ d + 1 → f u.known ≡ 0 → (c : ℕ) → c ≢ d → seats_with c (set views h u) ≡ seats_with c views
  with-others d was now c ne = let less = with-less d was now c in let none_ = one-apart (d + 1) (c + 1) (λ e. ne (omega (arith, e))) in omega (arith, less, none_)
