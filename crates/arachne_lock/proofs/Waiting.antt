-- The set beside a queue, and a queue that a task leaves.
use Rattle.std.proofs.Common.{◌≡◌, ℕ, Bool, true, false, cond, ◌||◌, List, [], ◌∷◌, ◌++◌, ◌↔◌, IsTrue, inl, inr, refl, sym, ◌∙◌, ap, eqb-true, nat_eq, Contains, filter, not}
use Rattle.std.specs.List.{list_any, IsDistinct, AllByRecursion}
use Rattle.std.proofs.lemmas.{Bool.cases_Bool, Cmp.nat_eq_equiv, List.Elements.{All-from_recursion, All-weaker}}
use Rattle.std.proofs.lemmas.List.Folds.{list_any_none, list_any-append}
use Rattle.std.proofs.lemmas.Map.Keys.{IsDistinct-push, IsDistinct-cons, IsDistinct-head, IsDistinct-tail}
use Rattle.std.proofs.lemmas.Map.Views.{Contains-from_any, list_any-from_Contains}
use Rattle.arachne_lock.specs.{Law.without, WaiterQueue.Indexes}

-- the set has a task exactly if the queue has
pub found : (keys order : List ℕ) (who : ℕ) (result : Bool) → Indexes keys order → result ≡ list_any (nat_eq who) keys
    → IsTrue result ↔ Contains order who
found keys order who result indexed answer =
    let by_order : result ≡ list_any (nat_eq who) order = answer ∙ indexed.members who in (
      (λ yes. Contains-from_any eqb-true who order (sym by_order ∙ yes)),
      (λ there. by_order ∙ list_any-from_Contains nat_eq_equiv who order there),
    )

cond_or : (b x : Bool) → cond b true x ≡ (x || (b || false))
cond_or true true = refl
cond_or true false = refl
cond_or false true = refl
cond_or false false = refl

pub none_found : (order : List ℕ) (who : ℕ) → ¬ Contains order who → list_any (nat_eq who) order ≡ false
none_found order who absent =
    elim (cases_Bool (list_any (nat_eq who) order)) [
      | inl passes ↦ absurd (absent (Contains-from_any eqb-true who order passes))
      | inr fails ↦ fails
    ]

-- a task that was not in joins the end
pub Indexes-push : (keys new_keys order : List ℕ) (who : ℕ) → Indexes keys order → ¬ Contains order who
    → ((q : ℕ) → list_any (nat_eq q) new_keys ≡ cond (nat_eq who q) true (list_any (nat_eq q) keys))
    → Indexes new_keys (order ++ who ∷ [])
Indexes-push keys new_keys order who indexed absent updated = record {
  distinct = IsDistinct-push nat_eq_equiv order who indexed.distinct (none_found order who absent);
  members = λ q.
      updated q
      ∙ ap (λ x. cond (nat_eq who q) true x) (indexed.members q)
      ∙ ap (λ b. cond b true (list_any (nat_eq q) order)) (nat_eq_equiv.symm who q)
      ∙ cond_or (nat_eq q who) (list_any (nat_eq q) order)
      ∙ sym (list_any-append (nat_eq q) order (who ∷ []));
}

-- the front leaves
pub Indexes-pop : (keys new_keys order : List ℕ) (front : ℕ) → Indexes keys (front ∷ order)
    → ((q : ℕ) → list_any (nat_eq q) new_keys ≡ cond (nat_eq front q) false (list_any (nat_eq q) keys))
    → Indexes new_keys order
Indexes-pop keys new_keys order front indexed updated = record {
  distinct = IsDistinct-tail nat_eq front order indexed.distinct;
  members = λ q.
      elim (cases_Bool (nat_eq front q)) [
        | inl passes ↦
            updated q
            ∙ ap (λ b. cond b false (list_any (nat_eq q) keys)) passes
            ∙ sym (list_any_none (nat_eq q) order
            (All-weaker (λ x. nat_eq front x ≡ false) (λ x. nat_eq q x ≡ false)
            (λ x other. sym (nat_eq_equiv.congr front q x passes) ∙ other)
            order
            (All-from_recursion (λ x. nat_eq front x ≡ false) order (IsDistinct-head nat_eq front order indexed.distinct))))
        | inr fails ↦
            updated q
            ∙ ap (λ b. cond b false (list_any (nat_eq q) keys)) fails
            ∙ indexed.members q
            ∙ ap (λ b. b || list_any (nat_eq q) order) (nat_eq_equiv.symm q front ∙ fails)
      ];
}

-- ---- a task leaves, wherever it is in the queue

list_any-cond : (p : ℕ → Bool) (b : Bool) (x : ℕ) (xs : List ℕ) → list_any p (cond b (x ∷ xs) xs) ≡ cond b (p x || list_any p xs) (list_any p xs)
list_any-cond p true x xs = refl
list_any-cond p false x xs = refl

-- the test for it fails at each task that is left
left-apart : (b c : Bool) (rest : Bool) → (c ≡ b) → rest ≡ false → cond (not b) (c || rest) rest ≡ false
left-apart true c rest same none = none
left-apart false c rest same none = ap (λ (x : Bool). x || rest) same ∙ none

pub left-none : (who : ℕ) (order : List ℕ) → list_any (nat_eq who) (without who order) ≡ false
left-none who [] = refl
left-none who (x ∷ order) =
    list_any-cond (nat_eq who) (not (nat_eq x who)) x (without who order)
    ∙ left-apart (nat_eq x who) (nat_eq who x) (list_any (nat_eq who) (without who order)) (nat_eq_equiv.symm who x) (left-none who order)

-- the test for another has the same result as before
other-kept : (b c : Bool) (rest : Bool) → (b ≡ true → c ≡ false) → cond (not b) (c || rest) rest ≡ (c || rest)
other-kept true c rest apart = ap (λ (x : Bool). x || rest) (sym (apart refl))
other-kept false c rest apart = refl

left-others : (who q : ℕ) → nat_eq who q ≡ false → (order : List ℕ) → list_any (nat_eq q) (without who order) ≡ list_any (nat_eq q) order
left-others who q apart [] = refl
left-others who q apart (x ∷ order) =
    list_any-cond (nat_eq q) (not (nat_eq x who)) x (without who order)
    ∙ other-kept (nat_eq x who) (nat_eq q x) (list_any (nat_eq q) (without who order))
    (λ same. nat_eq_equiv.symm q x ∙ nat_eq_equiv.congr x who q same ∙ apart)
    ∙ ap (λ (b : Bool). nat_eq q x || b) (left-others who q apart order)

distinct-cond : (b : Bool) (x : ℕ) (xs : List ℕ) → AllByRecursion (λ y. nat_eq x y ≡ false) xs → IsDistinct nat_eq xs → IsDistinct nat_eq (cond b (x ∷ xs) xs)
distinct-cond true x xs apart distinct = IsDistinct-cons nat_eq x xs apart distinct
distinct-cond false x xs apart distinct = distinct

apart-cond : (k : ℕ) (b : Bool) (x : ℕ) (xs : List ℕ) → nat_eq k x ≡ false → AllByRecursion (λ y. nat_eq k y ≡ false) xs → AllByRecursion (λ y. nat_eq k y ≡ false) (cond b (x ∷ xs) xs)
apart-cond k true x xs head rest = (head, rest)
apart-cond k false x xs head rest = rest

apart-filter : (k : ℕ) (p : ℕ → Bool) (xs : List ℕ) → AllByRecursion (λ y. nat_eq k y ≡ false) xs → AllByRecursion (λ y. nat_eq k y ≡ false) (filter p xs)
apart-filter k p [] all = all
apart-filter k p (x ∷ xs) all = apart-cond k (p x) x (filter p xs) all.0 (apart-filter k p xs all.1)

distinct-filter : (p : ℕ → Bool) (xs : List ℕ) → IsDistinct nat_eq xs → IsDistinct nat_eq (filter p xs)
distinct-filter p [] distinct = distinct
distinct-filter p (x ∷ xs) distinct =
    distinct-cond (p x) x (filter p xs) (apart-filter x p xs (IsDistinct-head nat_eq x xs distinct)) (distinct-filter p xs (IsDistinct-tail nat_eq x xs distinct))

pub Indexes-remove : (keys new_keys order : List ℕ) (who : ℕ) → Indexes keys order
    → ((q : ℕ) → list_any (nat_eq q) new_keys ≡ cond (nat_eq who q) false (list_any (nat_eq q) keys))
    → Indexes new_keys (without who order)
Indexes-remove keys new_keys order who indexed updated = record {
  distinct = distinct-filter (λ w. not (nat_eq w who)) order indexed.distinct;
  members = λ q.
      elim (cases_Bool (nat_eq who q)) [
        | inl passes ↦
            updated q
            ∙ ap (λ b. cond b false (list_any (nat_eq q) keys)) passes
            ∙ sym (ap (λ k. list_any (nat_eq k) (without who order)) (sym (eqb-true who q passes)) ∙ left-none who order)
        | inr fails ↦
            updated q
            ∙ ap (λ b. cond b false (list_any (nat_eq q) keys)) fails
            ∙ indexed.members q
            ∙ sym (left-others who q fails order)
      ];
}
