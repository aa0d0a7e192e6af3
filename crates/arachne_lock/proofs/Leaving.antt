-- In a lawful history a task that has left is granted the lock only after it has asked again.
use Rattle.std.proofs.Common.{◌≡◌, ℕ, zero, suc, ◌<◌, Bool, true, false, ◌||◌, List, [], ◌∷◌, ◌++◌, inl, inr, refl, sym, ◌∙◌, ap, subst, arith, Some, nat_eq, eqb-true, slice_get, drop, cond}
use Rattle.std.specs.List.{list_any}
use Rattle.std.proofs.lemmas.{Bool.{true≢false, cases_Bool}, Cmp.nat_eq_equiv, List.Folds.list_any-append}
use Rattle.std.proofs.lemmas.Option.{same_Some, none-some}
use Rattle.arachne_lock.specs.declared.event.QueueEvent.{QueueEvent, TheVariants.{Ask, Grant, Free, Leave}}
use Rattle.arachne_lock.specs.{Law.{Holding, opening, Allows, after, without}, History.{IsLawfulFrom, IsLawful}}
use Rattle.arachne_lock.specs.Promises.{GrantsNoneThatLeft}
use Rattle.arachne_lock.proofs.Waiting.{left-none}

-- the task isn't in the queue
abbrev IsOut : List ℕ → ℕ → Type 0
IsOut queue who = list_any (nat_eq who) queue ≡ false

or-false-left : (a b : Bool) → (a || b) ≡ false → b ≡ false
or-false-left true b none = absurd (true≢false none)
or-false-left false b none = none

or-false-both : (a b : Bool) → a ≡ false → b ≡ false → (a || b) ≡ false
or-false-both a b first second = ap (λ (x : Bool). x || b) first ∙ second

out-drop : (queue : List ℕ) (who : ℕ) → IsOut queue who → IsOut (drop 1 queue) who
out-drop [] who out = refl
out-drop (x ∷ queue) who out = or-false-left (nat_eq who x) (list_any (nat_eq who) queue) out

out-push : (queue : List ℕ) (who other : ℕ) → nat_eq who other ≡ false → IsOut queue who → IsOut (queue ++ other ∷ []) who
out-push queue who other apart out =
    list_any-append (nat_eq who) queue (other ∷ [])
    ∙ or-false-both (list_any (nat_eq who) queue) (nat_eq who other || false) out (or-false-both (nat_eq who other) false apart refl)

kept-false : (b : Bool) (x : ℕ) (xs : List ℕ) (who : ℕ) → nat_eq who x ≡ false → IsOut xs who → IsOut (cond b (x ∷ xs) xs) who
kept-false true x xs who apart out = or-false-both (nat_eq who x) (list_any (nat_eq who) xs) apart out
kept-false false x xs who apart out = out

or-false-first : (a b : Bool) → (a || b) ≡ false → a ≡ false
or-false-first true b none = absurd (true≢false none)
or-false-first false b none = refl

out-without : (queue : List ℕ) (who other : ℕ) → IsOut queue who → IsOut (without other queue) who
out-without [] who other out = refl
out-without (x ∷ queue) who other out =
    kept-false _ x (without other queue) who (or-false-first (nat_eq who x) (list_any (nat_eq who) queue) out)
    (out-without queue who other (or-false-left (nat_eq who x) (list_any (nat_eq who) queue) out))

not-front : (queue : List ℕ) (who : ℕ) → IsOut queue who → slice_get queue 0 ≡ Some who → ⊥
not-front [] who out front = none-some _ front
not-front (x ∷ queue) who out front =
    true≢false (sym (nat_eq_equiv.refl who) ∙ ap (nat_eq who) (sym (same_Some _ _ front)) ∙ or-false-first (nat_eq who x) (list_any (nat_eq who) queue) out)

-- the same place, one event later
one-later : (event : QueueEvent) (events : List QueueEvent) (who j : ℕ) → (k : ℕ) × (k < j) × (slice_get events k ≡ Some (Ask who))
    → (k : ℕ) × (k < suc j) × (slice_get (event ∷ events) k ≡ Some (Ask who))
one-later event events who j later = (suc later.0, omega (arith, later.1), later.2)

-- a task that isn't in the queue asks before it is granted the lock
grant-needs-ask : (h : Holding) (who : ℕ) (events : List QueueEvent) → IsOut h.queue who → IsLawfulFrom h events
    → (j : ℕ) → slice_get events j ≡ Some (Grant who)
    → (k : ℕ) × (k < j) × (slice_get events k ≡ Some (Ask who))
grant-needs-ask h who [] out lawful j there = absurd (none-some _ there)
grant-needs-ask h who (event ∷ events) out lawful zero there =
    absurd (not-front h.queue who out (subst (Allows h) (same_Some _ _ there) lawful.0).1)
grant-needs-ask h who (Ask other ∷ events) out lawful (suc j) there =
    elim (cases_Bool (nat_eq who other)) [
      | inl same ↦ (zero, omega arith, ap (λ (w : ℕ). Some (Ask w)) (sym (eqb-true who other same)))
      | inr apart ↦ one-later (Ask other) events who j (grant-needs-ask (after h (Ask other)) who events (out-push h.queue who other apart out) lawful.1 j there)
    ]
grant-needs-ask h who (Grant other ∷ events) out lawful (suc j) there = one-later (Grant other) events who j (grant-needs-ask (after h (Grant other)) who events (out-drop h.queue who out) lawful.1 j there)
grant-needs-ask h who (Free other ∷ events) out lawful (suc j) there = one-later (Free other) events who j (grant-needs-ask (after h (Free other)) who events out lawful.1 j there)
grant-needs-ask h who (Leave other ∷ events) out lawful (suc j) there = one-later (Leave other) events who j (grant-needs-ask (after h (Leave other)) who events (out-without h.queue who other out) lawful.1 j there)

grants-none : (h : Holding) (events : List QueueEvent) → IsLawfulFrom h events
    → (i j who : ℕ) → i < j → slice_get events i ≡ Some (Leave who) → slice_get events j ≡ Some (Grant who)
    → (k : ℕ) × (i < k) × (k < j) × (slice_get events k ≡ Some (Ask who))
grants-none h [] lawful i j who before left granted = absurd (none-some _ left)
grants-none h (event ∷ events) lawful i zero who before left granted = absurd (omega (arith, before))
grants-none h (event ∷ events) lawful zero (suc j) who before left granted =
    let leaves : event ≡ Leave who = same_Some _ _ left in
    let out : IsOut (after h event).queue who = subst (λ (e : QueueEvent). IsOut (after h e).queue who) (sym leaves) (left-none who h.queue) in
    let later = grant-needs-ask (after h event) who events out lawful.1 j granted in
    (suc later.0, omega arith, omega (arith, later.1), later.2)
grants-none h (event ∷ events) lawful (suc i) (suc j) who before left granted =
    let later = grants-none (after h event) events lawful.1 i j who (omega (arith, before)) left granted in
    (suc later.0, omega (arith, later.1), omega (arith, later.2), later.3)

pub grants_none : (events : List QueueEvent) → IsLawful events → GrantsNoneThatLeft events
grants_none events lawful = grants-none opening events lawful
