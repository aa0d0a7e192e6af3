-- The properties that follow from the order of claims.
use Rattle.std.proofs.Common.{◌≡◌, ℕ, ◌+◌, ◌-◌, ◌<◌, true, List, length, arith, inl, inr, sym, ◌∙◌}
use Rattle.std.proofs.lemmas.Bool.{cases_lt, false≢true}
use Rattle.arachne_grants.specs.declared.claims.Client.{Client}
use Rattle.arachne_grants.specs.Claims.{claim_of, reserve_of, goes_before}
use Rattle.arachne_grants.specs.Grants.{client_at, target_at, claim_at, AsksForMore, IsInOrder, IsReserved, IsByPriority, IsFair}
use Rattle.arachne_grants.proofs.ClaimOrder.{goes_before-reserve, goes_before-short, goes_before-higher, goes_before-fewer, goes_before-fewer_below}

-- who gets less than its reserve asks for more
asks-below : (client : Client) (gets : ℕ) → gets < reserve_of client → gets < client.asks
asks-below client gets h = omega arith

-- no claim is before that by which another got its last core
pub contradicts : (clients : List Client) (targets : List ℕ) (place other : ℕ) → IsInOrder clients targets
    → AsksForMore clients targets place → other < length clients → 0 < target_at targets other
    → goes_before (claim_at clients targets place) (claim_of (client_at clients other) (target_at targets other - 1)) ≡ true → ⊥
contradicts clients targets place other order more within some before =
    false≢true (sym (order place other (target_at targets other - 1) more within (omega arith)) ∙ before)

pub IsReserved-in_order : (clients : List Client) (targets : List ℕ) → IsInOrder clients targets → IsReserved clients targets
IsReserved-in_order clients targets order = record {
  first = λ place other below beyond.
      contradicts clients targets place other order (below.0, asks-below (client_at clients place) (target_at targets place) below.1) beyond.0 (let h = beyond.1 in omega arith)
      (goes_before-reserve (client_at clients place) (client_at clients other) (target_at targets place) (target_at targets other - 1) below.1 (let h = beyond.1 in omega arith));
  short = λ place other below within higher.
      elim (cases_lt 0 (target_at targets other)) [
        | inl some ↦ absurd (contradicts clients targets place other order (below.0, asks-below (client_at clients place) (target_at targets place) below.1) within some
            (goes_before-short (client_at clients place) (client_at clients other) (target_at targets place) (target_at targets other - 1) below.1 higher))
        | inr none ↦ omega arith
      ];
}

pub IsByPriority-in_order : (clients : List Client) (targets : List ℕ) → IsInOrder clients targets → IsByPriority clients targets
IsByPriority-in_order clients targets order place other more higher beyond =
    contradicts clients targets place other order more beyond.0 (let h = beyond.1 in omega arith)
    (goes_before-higher (client_at clients place) (client_at clients other) (target_at targets place) (target_at targets other - 1) (let h = beyond.1 in omega arith) higher)

pub IsFair-in_order : (clients : List Client) (targets : List ℕ) → IsInOrder clients targets → IsFair clients targets
IsFair-in_order clients targets order = record {
  beyond = λ place other more beyond same.
      elim (cases_lt (target_at targets place + 1) (target_at targets other)) [
        | inl many ↦ absurd (contradicts clients targets place other order more beyond.0 (omega arith)
            (goes_before-fewer (client_at clients place) (client_at clients other) (target_at targets place) (target_at targets other - 1) (let h = beyond.1 in omega arith) same (omega arith)))
        | inr few ↦ few
      ];
  below = λ place other below within same.
      elim (cases_lt (target_at targets place + 1) (target_at targets other)) [
        | inl many ↦ absurd (contradicts clients targets place other order (below.0, asks-below (client_at clients place) (target_at targets place) below.1) within (omega arith)
            (goes_before-fewer_below (client_at clients place) (client_at clients other) (target_at targets place) (target_at targets other - 1) below.1 same (omega arith)))
        | inr few ↦ few
      ];
}
