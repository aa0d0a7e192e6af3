-- The cores that stay with their clients.
use Rattle.std.proofs.Common.{◌≡◌, ℕ, zero, suc, ◌+◌, ◌<◌, ◌≤◌, ◌⊎◌, ◌&&◌, Bool, true, false, if◌then◌else◌, cond, Option, Some, None, List, [], ◌∷◌, length, ap, ◌∙◌, inl, inr, arith}
use Rattle.std.proofs.lemmas.Bool.{cases_lt}
use Rattle.std.proofs.lemmas.Grind.{common_steps}
use Rattle.std.proofs.lemmas.List.{get_or_past}
use Rattle.std.proofs.lemmas.List.Sums.{sum_by-cons}
use Rattle.arachne_grants.specs.Grants.{target_at}
use Rattle.arachne_grants.specs.Owners.{owner_at, is_of, held_by, stay_by, TakesOnly, GivesOnly, KeepsTargets, IsSettled, MovesLeast, AreAmong}

held_by-cons : (owner : Option ℕ) (owners : List (Option ℕ)) (client : ℕ)
    → held_by (owner ∷ owners) client ≡ (if is_of client owner then 1 else 0) + held_by owners client
held_by-cons owner owners client = sum_by-cons (λ (o : Option ℕ). cond (is_of client o) 1 0) owner owners

both-le : (a b : Bool) → ((if a && b then 1 else 0) ≤ (if a then 1 else 0)) × ((if a && b then 1 else 0) ≤ (if b then 1 else 0))
both-le true true = (omega arith, omega arith)
both-le true false = (omega arith, omega arith)
both-le false true = (omega arith, omega arith)
both-le false false = (omega arith, omega arith)

stay_by-le : (old new : List (Option ℕ)) (client : ℕ) → (stay_by old new client ≤ held_by old client) × (stay_by old new client ≤ held_by new client)
stay_by-le [] new client = (omega arith, omega arith)
stay_by-le (before ∷ old) [] client = (omega arith, omega arith)
stay_by-le (before ∷ old) (after ∷ new) client =
    let rest = stay_by-le old new client in
    let here = both-le (is_of client before) (is_of client after) in
    let e = held_by-cons before old client in
    let f = held_by-cons after new client in
    (omega (arith, rest.0, here.0), omega (arith, rest.1, here.1))

both-same : (b : Bool) → (if b then 1 else 0) ≤ (if b && b then 1 else 0)
both-same true = omega arith
both-same false = omega arith

-- a core that is free of owners or keeps them, first in one way and then in the other
one-stays : (before middle after : Option ℕ) (client : ℕ) → (middle ≡ before) ⊎ (middle ≡ None) → (after ≡ middle) ⊎ (middle ≡ None)
    → (if is_of client middle then 1 else 0) ≤ (if is_of client before && is_of client after then 1 else 0)
one-stays before None after client takes gives = omega arith
one-stays before (Some owner) after client (inl kept) (inl stays) = rw (stays, ← kept) (both-same (is_of client (Some owner)))
one-stays before (Some owner) after client (inl kept) (inr none) = absurd (cc)
one-stays before (Some owner) after client (inr none) gives = absurd (cc)

stay_by-middle : (old middle new : List (Option ℕ)) (client : ℕ) → length middle ≡ length old → length new ≡ length old
    → TakesOnly old middle → GivesOnly middle new → held_by middle client ≤ stay_by old new client
stay_by-middle [] [] new client same same' takes gives = omega arith
stay_by-middle [] (m ∷ middle) new client same same' takes gives = absurd (omega arith)
stay_by-middle (o ∷ old) [] new client same same' takes gives = absurd (omega arith)
stay_by-middle (o ∷ old) (m ∷ middle) [] client same same' takes gives = absurd (omega arith)
stay_by-middle (o ∷ old) (m ∷ middle) (n ∷ new) client same same' takes gives =
    let rest = stay_by-middle old middle new client (omega arith) (omega arith) (λ core. takes (suc core)) (λ core. gives (suc core)) in
    let here = one-stays o m n client (takes zero) (gives zero) in
    let e = held_by-cons m middle client in
    omega arith

pub MovesLeast-both : (old middle new : List (Option ℕ)) (targets : List ℕ) → length middle ≡ length old → length new ≡ length old
    → TakesOnly old middle → KeepsTargets old middle targets → GivesOnly middle new → IsSettled new targets → MovesLeast old new targets
MovesLeast-both old middle new targets same same' takes keeps gives settled client few =
    let le = stay_by-le old new client in
    let ge = stay_by-middle old middle new client same same' takes gives in
    let k = keeps client few in
    let s = settled client few in
    omega (arith, le.0, le.1)

is_of-same : (client : ℕ) → is_of client (Some client) ≡ true
is_of-same client = grind (arith, common_steps)

-- who is the owner of a core has one
held_by-some : (owners : List (Option ℕ)) (core client : ℕ) → owner_at owners core ≡ Some client → 0 < held_by owners client
held_by-some [] core client is = absurd (let none : owner_at [] core ≡ None = get_or_past [] core None (omega arith) in cc)
held_by-some (owner ∷ owners) zero client is =
    let same : is_of client owner ≡ true = ap (is_of client) is ∙ is_of-same client in
    let e : held_by (owner ∷ owners) client ≡ 1 + held_by owners client = held_by-cons owner owners client ∙ ap (λ (b : Bool). (if b then 1 else 0) + held_by owners client) same in
    omega arith
held_by-some (owner ∷ owners) (suc core) client is =
    let rest : 0 < held_by owners client = held_by-some owners core client is in
    let e = held_by-cons owner owners client in
    omega arith

-- who has its target, and a core, has a target
pub AreAmong-settled : (owners : List (Option ℕ)) (targets : List ℕ) → IsSettled owners targets → AreAmong owners (length targets)
AreAmong-settled owners targets settled core client few is =
    elim (cases_lt client (length targets)) [
      | inl within ↦ within
      | inr past ↦ absurd (
          let none : target_at targets client ≡ 0 = get_or_past targets client 0 past in
          let has = settled client few in
          let some = held_by-some owners core client is in
          omega arith)
    ]
