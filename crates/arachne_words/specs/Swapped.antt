-- The order of what is out with a seat has no meaning.
use Rattle.std.proofs.Common.{◌≡◌, ◌≢◌, ℕ, ◌∙◌, ap, sym, subst, refl, List, [], ◌∷◌, eqb, inl, inr}
use Rattle.std.proofs.lemmas.Bool.{cases_eq, cond-true, cond-false, eq-eqb, ne_eqb}
use Rattle.arachne_contexts.specs.Out.{Out}
use Rattle.arachne_rule.specs.{declared.view.Carried.Carried, Layout.Contexts, Views.{carried_at, without}}
use Rattle.arachne_rule.proofs.Carrying.{without-at, without-else}
use Rattle.arachne_words.specs.{Out.AreOutAs, Seats.{ClaimView, HoldView}}

drops : (x : ℕ) (a : Carried) (cs : List Carried) → a.context ≡ x → without x (a ∷ cs) ≡ without x cs
drops x a cs e = cond-true (eqb a.context x) _ _ (eq-eqb _ _ e)

keeps : (x : ℕ) (a : Carried) (cs : List Carried) → a.context ≢ x → without x (a ∷ cs) ≡ a ∷ without x cs
keeps x a cs n = cond-false (eqb a.context x) _ _ (ne_eqb _ _ n)

without-swap : (x y : ℕ) (cs : List Carried) → without x (without y cs) ≡ without y (without x cs)
without-swap x y [] = refl
without-swap x y (a ∷ cs) = elim (cases_eq a.context x) [
  | inl e ↦ elim (cases_eq a.context y) [
    | inl f ↦ ap (without x) (drops y a cs f) ∙ without-swap x y cs ∙ ap (without y) (sym (drops x a cs e))
    | inr m ↦ ap (without x) (keeps y a cs m) ∙ drops x a (without y cs) e ∙ without-swap x y cs ∙ ap (without y) (sym (drops x a cs e))
  ]
  | inr n ↦ elim (cases_eq a.context y) [
    | inl f ↦ ap (without x) (drops y a cs f) ∙ without-swap x y cs ∙ sym (drops y a (without x cs) f) ∙ ap (without y) (sym (keeps x a cs n))
    | inr m ↦ ap (without x) (keeps y a cs m) ∙ keeps x a (without y cs) n ∙ ap (λ (r : List Carried). a ∷ r) (without-swap x y cs)
        ∙ sym (keeps y a (without x cs) m) ∙ ap (without y) (sym (keeps x a cs n))
  ]
]

abbrev is_some : {A : Type 0} → List A → Type 0
is_some [] = ⊥
is_some (x ∷ xs) = Unit {0}

not-both : {A : Type 0} (x : A) (xs : List A) → x ∷ xs ≡ [] → ⊥
not-both x xs e = subst is_some e tt

pub swapped-out : (c : Contexts) (cs : List Carried) (first second : Out ClaimView HoldView) (outs : List (Out ClaimView HoldView))
    → AreOutAs c cs (first ∷ second ∷ outs) → AreOutAs c cs (second ∷ first ∷ outs)
swapped-out c cs first second outs (a, is_a, at_a, (b, is_b, at_b, others)) =
    let apart : b.context ≢ a.context = λ e. not-both b [] (sym at_b ∙ ap (λ (x : ℕ). carried_at x (without a.context cs)) e ∙ without-at a.context cs) in (
      b,
      is_b,
      sym (without-else a.context b.context cs apart) ∙ at_b,
      (
        a,
        is_a,
        without-else b.context a.context cs (λ e. apart (sym e)) ∙ at_a,
        subst (λ (l : List Carried). AreOutAs c l outs) (without-swap b.context a.context cs) others,
      ),
    )
