-- A lawful history has one holder at a time.
use Rattle.std.proofs.Common.{◌≡◌, ℕ, zero, suc, ◌<◌, List, [], ◌∷◌, ◌⊎◌, inl, inr, ap, subst, arith, Some, slice_get}
use Rattle.std.proofs.lemmas.Option.{same_Some, none-some}
use Rattle.arachne_lock.specs.declared.event.QueueEvent.{QueueEvent, TheVariants.{Ask, Grant, Free, Leave}}
use Rattle.arachne_lock.specs.{Law.{Holding, opening, Allows, after}, History.{IsLawfulFrom, IsLawful, IsQuiet}}
use Rattle.arachne_lock.specs.Promises.{HasOneHolderAtATime}

-- While `first` owns the lock, a grant comes only after `first` has freed it.
freed_before_grant : (h : Holding) (first : ℕ) (events : List QueueEvent) → h.owner ≡ Some first → IsLawfulFrom h events
    → (j : ℕ) (second : ℕ) → slice_get events j ≡ Some (Grant second)
    → (k : ℕ) × (k < j) × (slice_get events k ≡ Some (Free first))
freed_before_grant h first [] owned lawful j second there = absurd (none-some _ there)
freed_before_grant h first (Ask who ∷ events) owned lawful zero second there = cc
freed_before_grant h first (Grant who ∷ events) owned lawful zero second there = cc
freed_before_grant h first (Free who ∷ events) owned lawful zero second there = cc
freed_before_grant h first (Leave who ∷ events) owned lawful zero second there = cc
freed_before_grant h first (Ask who ∷ events) owned lawful (suc j) second there =
    let later = freed_before_grant (after h (Ask who)) first events owned lawful.1 j second there in
    (suc later.0, omega (arith, later.1), later.2)
freed_before_grant h first (Leave who ∷ events) owned lawful (suc j) second there =
    let later = freed_before_grant (after h (Leave who)) first events owned lawful.1 j second there in
    (suc later.0, omega (arith, later.1), later.2)
freed_before_grant h first (Grant who ∷ events) owned lawful (suc j) second there = cc
freed_before_grant h first (Free who ∷ events) owned lawful (suc j) second there =
    (zero, omega arith, cc)

-- Between two grants the first task frees.
freed_between : (h : Holding) (events : List QueueEvent) → IsLawfulFrom h events
    → (i j : ℕ) (first second : ℕ) → i < j → slice_get events i ≡ Some (Grant first) → slice_get events j ≡ Some (Grant second)
    → (k : ℕ) × (i < k) × (k < j) × (slice_get events k ≡ Some (Free first))
freed_between h [] lawful i j first second before one two = absurd (none-some _ one)
freed_between h (event ∷ events) lawful i zero first second before one two = absurd (omega (arith, before))
freed_between h (event ∷ events) lawful zero (suc j) first second before one two =
    let granted : event ≡ Grant first = same_Some _ _ one in
    let owned : (after h event).owner ≡ Some first = ap (λ e. (after h e).owner) granted in
    let later = freed_before_grant (after h event) first events owned lawful.1 j second two in
    (suc later.0, omega arith, omega (arith, later.1), later.2)
freed_between h (event ∷ events) lawful (suc i) (suc j) first second before one two =
    let later = freed_between (after h event) events lawful.1 i j first second (omega (arith, before)) one two in
    (suc later.0, omega (arith, later.1), omega (arith, later.2), later.3)

-- the events from i up to j are asks and leaves
abbrev QuietBetween : List QueueEvent → ℕ → ℕ → Type 0
QuietBetween events i j = (k : ℕ) (event : QueueEvent) → i < k → k < j → slice_get events k ≡ Some event → IsQuiet event

-- the same, one place later
quiet_later : (event : QueueEvent) (events : List QueueEvent) (i j : ℕ) → QuietBetween events i j → QuietBetween (event ∷ events) (suc i) (suc j)
quiet_later event events i j asks zero other after_i before_j there = absurd (omega (arith, after_i))
quiet_later event events i j asks (suc k) other after_i before_j there = asks k other (omega (arith, after_i)) (omega (arith, before_j)) there

-- the events up to j are asks and leaves
abbrev QuietUpTo : List QueueEvent → ℕ → Type 0
QuietUpTo events j = (k : ℕ) (event : QueueEvent) → k < j → slice_get events k ≡ Some event → IsQuiet event

-- one of them, followed by others
quiet_from : (events : List QueueEvent) (j : ℕ) (first : QueueEvent) → IsQuiet first → QuietUpTo events j → QuietUpTo (first ∷ events) (suc j)
quiet_from events j first quiet asks zero event before there = subst IsQuiet (same_Some _ _ there) quiet
quiet_from events j first quiet asks (suc k) event before there = asks k event (omega (arith, before)) there

-- asks and leaves after a grant
quiet_after : (events : List QueueEvent) (j : ℕ) (other : ℕ) → QuietUpTo events j → QuietBetween (Grant other ∷ events) zero (suc j)
quiet_after events j other asks zero event above before there = absurd (omega (arith, above))
quiet_after events j other asks (suc k) event above before there = asks k event (omega (arith, before)) there

-- If a task owns the lock after an event, the event was its grant, or an ask or a leave of another while it owned the
-- lock.
owned_or_granted : (h : Holding) (event : QueueEvent) (events : List QueueEvent) (j : ℕ) (who : ℕ) → Allows h event
    → (after h event).owner ≡ Some who → QuietUpTo events j
    → ((i : ℕ) × (i < suc j) × (slice_get (event ∷ events) i ≡ Some (Grant who)) × QuietBetween (event ∷ events) i (suc j))
    ⊎ ((h.owner ≡ Some who) × QuietUpTo (event ∷ events) (suc j))
owned_or_granted h (Ask other) events j who allowed owned asks = inr (owned, quiet_from events j (Ask other) tt asks)
owned_or_granted h (Leave other) events j who allowed owned asks = inr (owned, quiet_from events j (Leave other) tt asks)
owned_or_granted h (Grant other) events j who allowed owned asks =
    inl (zero, omega arith, ap (λ w. Some (Grant w)) (same_Some _ _ owned), quiet_after events j other asks)
owned_or_granted h (Free other) events j who allowed owned asks = absurd (none-some _ owned)

-- If a task frees, either its grant comes before, or it owned the lock from the start, with only asks and leaves
-- since.
granted_or_owned : (h : Holding) (events : List QueueEvent) → IsLawfulFrom h events
    → (j : ℕ) (who : ℕ) → slice_get events j ≡ Some (Free who)
    → ((i : ℕ) × (i < j) × (slice_get events i ≡ Some (Grant who)) × QuietBetween events i j)
    ⊎ ((h.owner ≡ Some who) × QuietUpTo events j)
granted_or_owned h [] lawful j who there = absurd (none-some _ there)
granted_or_owned h (event ∷ events) lawful zero who there =
    let freed : event ≡ Free who = same_Some _ _ there in
    inr (subst (Allows h) freed lawful.0, λ k later before. absurd (omega (arith, before)))
granted_or_owned h (event ∷ events) lawful (suc j) who there =
    elim (granted_or_owned (after h event) events lawful.1 j who there) [
      | inl grant ↦ inl (suc grant.0, omega (arith, grant.1), grant.2, quiet_later event events grant.0 j grant.3)
      | inr owned ↦ owned_or_granted h event events j who lawful.0 owned.0 owned.1
    ]

pub one_holder : (events : List QueueEvent) → IsLawful events → HasOneHolderAtATime events
one_holder events lawful = record {
  freed_between = freed_between opening events lawful;
  granted_before = λ j who there.
      elim (granted_or_owned opening events lawful j who there) [
        | inl grant ↦ grant
        | inr owned ↦ absurd (none-some _ owned.0)
      ];
}
