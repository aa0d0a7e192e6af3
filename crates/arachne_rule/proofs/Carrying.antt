-- Lists of carried contexts, and views of which one is changed.
use Rattle.std.proofs.Common.{◌≡◌, ℕ, zero, suc, ◌+◌, cond, eqb, List, ◌∷◌, length, set, get_or, refl, sym, ap, ◌∙◌, arith, inl, inr, []}
use Rattle.std.proofs.lemmas.{List.get_or-set_other, Bool.{eq-eqb, ne_eqb, cases_eq, cond-true, cond-false}}
use mathlib.Core.Option.{some, some-injective, some-ne-none}
use lib.ListN.{get_elem?}
use Rattle.arachne_weights.specs.{declared.token.Token.Token, Tokens.spent}
use Rattle.arachne_rule.specs.declared.view.{Carried.Carried, Known.Known}
use Rattle.arachne_rule.specs.Views.{blank, known_at, carried_at, without, with_carried}

pub without-at : (x : ℕ) (gs : List Carried) → carried_at x (without x gs) ≡ []
without-at x [] = refl
without-at x (g ∷ gs) = elim (cases_eq g.context x) [
  | inl e ↦ ap (carried_at x) (cond-true (eqb g.context x) _ _ (eq-eqb _ _ e)) ∙ without-at x gs
  | inr n ↦ ap (carried_at x) (cond-false (eqb g.context x) _ _ (ne_eqb _ _ n)) ∙ cond-false (eqb g.context x) _ _ (ne_eqb _ _ n) ∙ without-at x gs
]

pub without-else : (x y : ℕ) (gs : List Carried) → (y ≡ x → ⊥) → carried_at y (without x gs) ≡ carried_at y gs
without-else x y [] n = refl
without-else x y (g ∷ gs) n = elim (cases_eq g.context x) [
  | inl e ↦ ap (carried_at y) (cond-true (eqb g.context x) _ _ (eq-eqb _ _ e)) ∙ without-else x y gs n ∙ sym (cond-false (eqb g.context y) _ _ (ne_eqb _ _ (λ f. n (sym f ∙ e))))
  | inr m ↦ ap (carried_at y) (cond-false (eqb g.context x) _ _ (ne_eqb _ _ m)) ∙ ap (λ (r : List Carried). cond (eqb g.context y) (g ∷ r) r) (without-else x y gs n)
]

pub with-at : (g : Carried) (x : ℕ) (gs : List Carried) → g.context ≡ x → carried_at x (with_carried g gs) ≡ g ∷ []
with-at g x gs e = cond-true (eqb g.context x) _ _ (eq-eqb _ _ e) ∙ ap (λ (r : List Carried). g ∷ r) (ap (λ (y : ℕ). carried_at y (without g.context gs)) (sym e) ∙ without-at g.context gs)

pub with-else : (g : Carried) (x y : ℕ) (gs : List Carried) → g.context ≡ x → (y ≡ x → ⊥) → carried_at y (with_carried g gs) ≡ carried_at y gs
with-else g x y gs e n = cond-false (eqb g.context y) _ _ (ne_eqb _ _ (λ f. n (sym f ∙ e))) ∙ without-else g.context y gs (λ f. n (f ∙ e))

-- the number of entries
pub without-length : (x : ℕ) (gs : List Carried) → length (without x gs) + length (carried_at x gs) ≡ length gs
without-length x [] = refl
without-length x (g ∷ gs) = elim (cases_eq g.context x) [
  | inl e ↦
      let a = ap length (cond-true (eqb g.context x) (without x gs) (g ∷ without x gs) (eq-eqb _ _ e)) in
      let b = ap length (cond-true (eqb g.context x) (g ∷ carried_at x gs) (carried_at x gs) (eq-eqb _ _ e)) in
      let r = without-length x gs in omega arith
  | inr n ↦
      let a = ap length (cond-false (eqb g.context x) (without x gs) (g ∷ without x gs) (ne_eqb _ _ n)) in
      let b = ap length (cond-false (eqb g.context x) (g ∷ carried_at x gs) (carried_at x gs) (ne_eqb _ _ n)) in
      let r = without-length x gs in omega arith
]

-- ---- views

get_or-there : {A : Type 0} (xs : List A) (h : ℕ) (v d : A) → get_elem? xs h ≡ some v → get_or xs h d ≡ v
get_or-there [] h v d e = absurd (some-ne-none v (sym e))
get_or-there (x ∷ xs) zero v d e = some-injective x v e
get_or-there (x ∷ xs) (suc h) v d e = get_or-there xs h v d e

get_or-set-there : {A : Type 0} (xs : List A) (h : ℕ) (v u d : A) → get_elem? xs h ≡ some v → get_or (set xs h u) h d ≡ u
get_or-set-there [] h v u d e = absurd (some-ne-none v (sym e))
get_or-set-there (x ∷ xs) zero v u d e = refl
get_or-set-there (x ∷ xs) (suc h) v u d e = get_or-set-there xs h v u d e

pub known-there : (vs : List (Token Known)) (h : ℕ) (v : Token Known) → get_elem? vs h ≡ some v → known_at vs h ≡ v.known
known-there vs h v e = ap (λ (t : Token Known). t.known) (get_or-there vs h v (spent blank) e)

pub known-set : (vs : List (Token Known)) (h : ℕ) (v u : Token Known) → get_elem? vs h ≡ some v → known_at (set vs h u) h ≡ u.known
known-set vs h v u e = ap (λ (t : Token Known). t.known) (get_or-set-there vs h v u (spent blank) e)

pub known-else : (vs : List (Token Known)) (h k : ℕ) (u : Token Known) → (k ≡ h → ⊥) → known_at (set vs h u) k ≡ known_at vs k
known-else vs h k u n = ap (λ (t : Token Known). t.known) (get_or-set_other vs h k u (spent blank) n)
