-- The number of contexts that are out with a seat, after one was claimed or taken, changed, or given up.
use Rattle.std.proofs.Common.{◌≡◌, ℕ, zero, suc, ◌+◌, ◌-◌, ◌<◌, ◌≤◌, List, [], ◌∷◌, length, eqb, refl, sym, ap, ◌∙◌, subst, arith, inl, inr}
use Rattle.std.proofs.lemmas.Bool.{cases_eq, cond-true, cond-false, eq-eqb, ne_eqb}
use Rattle.arachne_rule.specs.{declared.view.{Carried.Carried, Known.Known}, Views.{carried_at, without, with_carried}}
use Rattle.arachne_rule.specs.Plays.{Carries}
use Rattle.arachne_rule.proofs.Carrying.{without-at, without-else, with-at, with-else, without-length}
use Rattle.arachne_words.specs.Seats.{AreOut, CallView}

no-more : {A : Type 0} (c : A) (cs : List A) → c ∷ cs ≡ [] → ⊥
no-more c cs e = let a = ap length e in omega arith

-- contexts below n, each once, are at most n
bound : (n : ℕ) (cs : List Carried) → ((x : ℕ) → length (carried_at x cs) ≤ 1) → ((x : ℕ) → n ≤ x → carried_at x cs ≡ []) → length cs ≤ n
bound n [] once inside = omega arith
bound zero (c ∷ cs) once inside = absurd (no-more c _ (sym (cond-true _ (c ∷ carried_at c.context cs) (carried_at c.context cs) (eq-eqb c.context c.context refl)) ∙ inside c.context (omega arith)))
bound (suc n) (c ∷ cs) once inside =
    let all : List Carried = c ∷ cs in
    let rest = bound n (without n all)
    (λ x. elim (cases_eq x n) [
      | inl e ↦ let a = ap length (ap (λ (y : ℕ). carried_at y (without n all)) e ∙ without-at n all) in omega arith
      | inr m ↦ let a = ap length (without-else n x all m) in let b = once x in omega arith
    ])
    (λ x h. elim (cases_eq x n) [
      | inl e ↦ ap (λ (y : ℕ). carried_at y (without n all)) e ∙ without-at n all
      | inr m ↦ without-else n x all m ∙ inside x (omega arith)
    ]) in
    let a = without-length n all in let b = once n in omega arith

pub out-bound : (n out : ℕ) (k : Known) → AreOut n out k → out ≤ n
out-bound n out k o = let a = bound n k.carried o.once o.inside in let b = o.counted in omega arith

-- only what is carried matters
moved : (n out : ℕ) (k k' : Known) → AreOut n out k → k'.carried ≡ k.carried → AreOut n out k'
moved n out k k' o is = record {
  counted = ap length is ∙ o.counted;
  once = λ x. subst (λ (cs : List Carried). length (carried_at x cs) ≤ 1) (sym is) (o.once x);
  inside = λ x h. ap (carried_at x) is ∙ o.inside x h;
}

-- one more context is out, which wasn't
pub out-more : (n out : ℕ) (k k' : Known) (c : Carried) → AreOut n out k → c.context < n → carried_at c.context k.carried ≡ [] → k'.carried ≡ with_carried c k.carried → AreOut n (out + 1) k'
out-more n out k k' c o inside fresh is = moved n (out + 1) (record k { carried = with_carried c k.carried }) k' (record {
  counted = let a = without-length c.context k.carried in let b = ap length fresh in let d = o.counted in omega arith;
  once = λ x. elim (cases_eq x c.context) [
    | inl e ↦ let a = ap length (with-at c x k.carried (sym e)) in omega arith
    | inr m ↦ let a = ap length (with-else c c.context x k.carried refl m) in let b = o.once x in omega arith
  ];
  inside = λ x h. with-else c c.context x k.carried refl (λ e. omega arith) ∙ o.inside x h;
}) is

-- a context is no longer out
pub out-less : (n out : ℕ) (k k' : Known) (c : Carried) → AreOut n out k → Carries k c → k'.carried ≡ without c.context k.carried → AreOut n (out - 1) k'
out-less n out k k' c o has is = moved n (out - 1) (record k { carried = without c.context k.carried }) k' (record {
  counted = let a = without-length c.context k.carried in let b = ap length has in let d = o.counted in omega arith;
  once = λ x. elim (cases_eq x c.context) [
    | inl e ↦ let a = ap length (ap (λ (y : ℕ). carried_at y (without c.context k.carried)) e ∙ without-at c.context k.carried) in omega arith
    | inr m ↦ let a = ap length (without-else c.context x k.carried m) in let b = o.once x in omega arith
  ];
  inside = λ x h. elim (cases_eq x c.context) [
    | inl e ↦ ap (λ (y : ℕ). carried_at y (without c.context k.carried)) e ∙ without-at c.context k.carried
    | inr m ↦ without-else c.context x k.carried m ∙ o.inside x h
  ];
}) is

pub without-fresh : (x : ℕ) (cs : List Carried) → carried_at x cs ≡ [] → without x cs ≡ cs
without-fresh x [] e = refl
without-fresh x (c ∷ cs) e = elim (cases_eq c.context x) [
  | inl f ↦ absurd (no-more c (carried_at x cs) (sym (cond-true (eqb c.context x) (c ∷ carried_at x cs) (carried_at x cs) (eq-eqb _ _ f)) ∙ e))
  | inr n ↦ cond-false (eqb c.context x) (without x cs) (c ∷ without x cs) (ne_eqb _ _ n)
      ∙ ap (λ (r : List Carried). c ∷ r) (without-fresh x cs (sym (cond-false (eqb c.context x) (c ∷ carried_at x cs) (carried_at x cs) (ne_eqb _ _ n)) ∙ e))
]

pub without-twice : (x : ℕ) (cs : List Carried) → without x (without x cs) ≡ without x cs
without-twice x [] = refl
without-twice x (c ∷ cs) = elim (cases_eq c.context x) [
  | inl e ↦ let a = cond-true (eqb c.context x) (without x cs) (c ∷ without x cs) (eq-eqb _ _ e) in ap (without x) a ∙ without-twice x cs ∙ sym a
  | inr n ↦ let a = cond-false (eqb c.context x) (without x cs) (c ∷ without x cs) (ne_eqb _ _ n) in ap (without x) a ∙ cond-false (eqb c.context x) (without x (without x cs)) (c ∷ without x (without x cs)) (ne_eqb _ _ n) ∙ ap (λ (r : List Carried). c ∷ r) (without-twice x cs) ∙ sym a
]

pub without-with : (c : Carried) (cs : List Carried) → without c.context (with_carried c cs) ≡ without c.context cs
without-with c cs = cond-true (eqb c.context c.context) _ _ (eq-eqb c.context c.context refl) ∙ without-twice c.context cs

-- the invariant of a seat between calls
abbrev pub Keeps : {T : Type 0} → CallView T → ℕ → ℕ → Type 0
Keeps s weight out = (s.weight ≡ weight) × (s.slots ≡ []) × AreOut s.table.slots out s.known

module _ {T : Type 0} (s t : CallView T) (weight out : ℕ) (k : Known) (keeps : Keeps s weight out) (e : t ≡ record s { known = k }) where
  with-out : (o : ℕ) → AreOut s.table.slots o k → Keeps t weight o
  with-out o are = (ap (λ v. v.weight) e ∙ keeps.0, ap (λ v. v.slots) e ∙ keeps.1, subst (λ (v : CallView T). AreOut v.table.slots o v.known) (sym e) are)

  pub keeps-more : (c : Carried) → c.context < s.table.slots → carried_at c.context s.known.carried ≡ [] → k.carried ≡ with_carried c s.known.carried → Keeps t weight (out + 1)
  keeps-more c inside fresh is = with-out (out + 1) (out-more s.table.slots out s.known k c keeps.2 inside fresh is)

  pub keeps-less : (c : Carried) → Carries s.known c → k.carried ≡ without c.context s.known.carried → Keeps t weight (out - 1)
  keeps-less c has is = with-out (out - 1) (out-less s.table.slots out s.known k c keeps.2 has is)
