-- Any two answers in the order of claims are the same. The idea: if one client gets more by the first and another by
-- the second, each asks for more by the answer in which it gets fewer, so neither's claim was before the other's: the
-- claims are equal, and then the turn decides.
use Rattle.std.proofs.Common.{◌≡◌, ℕ, zero, suc, ◌+◌, ◌-◌, ◌<◌, ◌≤◌, ◌⊎◌, true, List, length, sum, arith, inl, inr, sym, ◌∙◌, subst, below_more}
use Rattle.std.proofs.lemmas.Bool.{cases_lt, cases_order, false≢true}
use Rattle.arachne_grants.specs.declared.claims.Client.{Client}
use Rattle.arachne_grants.specs.declared.claims.Claim.{Claim}
use Rattle.arachne_grants.specs.Claims.{claim_of, goes_before}
use Rattle.arachne_grants.specs.Grants.{client_at, target_at, claim_at, AsksForMore, IsAnswer, IsDecided}
use Rattle.arachne_grants.proofs.ClaimOrder.{goes_before-trans, goes_before-more}
use Rattle.arachne_grants.proofs.Counts.{sum-less}

-- with more cores a client's claim is a later one
goes_before-many : (client : Client) (few more : ℕ) → goes_before (claim_of client few) (claim_of client (few + 1 + more)) ≡ true
goes_before-many client few zero =
    let e : few + 1 ≡ few + 1 + 0 = omega arith in
    subst (λ (n : ℕ). goes_before (claim_of client few) (claim_of client n) ≡ true) e (goes_before-more client few)
goes_before-many client few (suc more) =
    let e : few + 1 + more + 1 ≡ few + 1 + suc more = omega arith in
    subst (λ (n : ℕ). goes_before (claim_of client few) (claim_of client n) ≡ true) e
    (goes_before-trans (claim_of client few) (claim_of client (few + 1 + more)) (claim_of client (few + 1 + more + 1))
    (goes_before-many client few more) (goes_before-more client (few + 1 + more)))

before-less : (client : Client) (few many : ℕ) → few < many → goes_before (claim_of client few) (claim_of client many) ≡ true
before-less client few many less =
    let e : few + 1 + (many - few - 1) ≡ many = omega arith in
    subst (λ (n : ℕ). goes_before (claim_of client few) (claim_of client n) ≡ true) e (goes_before-many client few (many - few - 1))

-- what goes before a client's claim goes before each later one of it
before-more : (claim : Claim) (client : Client) (few many : ℕ) → few ≤ many → goes_before claim (claim_of client few) ≡ true
    → goes_before claim (claim_of client many) ≡ true
before-more claim client few many le is =
    elim (cases_order few many) [
      | inl same ↦ subst (λ (n : ℕ). goes_before claim (claim_of client n) ≡ true) same is
      | inr other ↦ elim other [
        | inl less ↦ goes_before-trans claim (claim_of client few) (claim_of client many) is (before-less client few many less)
        | inr more ↦ absurd (omega arith)
      ]
    ]

-- and what a client's claim goes before, each earlier one of it does
before-fewer : (claim : Claim) (client : Client) (few many : ℕ) → few ≤ many → goes_before (claim_of client many) claim ≡ true
    → goes_before (claim_of client few) claim ≡ true
before-fewer claim client few many le is =
    elim (cases_order few many) [
      | inl same ↦ subst (λ (n : ℕ). goes_before (claim_of client n) claim ≡ true) (sym same) is
      | inr other ↦ elim other [
        | inl less ↦ goes_before-trans (claim_of client few) (claim_of client many) claim (before-less client few many less) is
        | inr more ↦ absurd (omega arith)
      ]
    ]

-- of two clients not each can get more by one of two answers
not_both_more : (clients : List Client) (cores : ℕ) (targets other : List ℕ) (a b : ℕ) → IsAnswer clients cores targets
    → IsAnswer clients cores other → a < length clients → b < length clients → a < b
    → target_at targets a < target_at other a → target_at other b < target_at targets b → ⊥
not_both_more clients cores targets other a b first second within_a within_b before more_a more_b =
    let asks_a : AsksForMore clients targets a = (within_a, (let h = second.bounded.each a within_a in omega arith)) in
    let asks_b : AsksForMore clients other b = (within_b, (let h = first.bounded.each b within_b in omega arith)) in
    let turn = first.turn a b (target_at targets b - 1) asks_a before within_b (omega arith) in
    let none = second.order b a (target_at other a - 1) asks_b within_a (omega arith) in
    let claim_b = claim_of (client_at clients b) (target_at other b) in
    let is = before-more claim_b (client_at clients a) (target_at targets a) (target_at other a - 1) (omega arith)
    (before-fewer (claim_at clients targets a) (client_at clients b) (target_at other b) (target_at targets b - 1) (omega arith) turn) in
    false≢true (sym none ∙ is)

-- either one of the first n gets more by the second, or none does
someone_more : (targets other : List ℕ) (n : ℕ)
    → ((k : ℕ) × ((k < n) × (target_at targets k < target_at other k))) ⊎ ((k : ℕ) → k < n → target_at other k ≤ target_at targets k)
someone_more targets other zero = inr (λ k h. absurd (omega arith))
someone_more targets other (suc n) =
    elim (someone_more targets other n) [
      | inl found ↦ inl (found.0, ((let h = found.1.0 in omega arith), found.1.1))
      | inr none ↦ elim (cases_lt (target_at targets n) (target_at other n)) [
        | inl more ↦ inl (n, (omega arith, more))
        | inr le ↦ inr (λ k h. below_more (λ (k : ℕ). target_at other k ≤ target_at targets k) n none le k (omega arith))
      ]
    ]

-- nobody gets more by one answer than by another
no_more : (clients : List Client) (cores : ℕ) (targets other : List ℕ) (a : ℕ) → IsAnswer clients cores targets
    → IsAnswer clients cores other → a < length clients → target_at targets a < target_at other a → ⊥
no_more clients cores targets other a first second within more =
    let asks : AsksForMore clients targets a = (within, (let h = second.bounded.each a within in omega arith)) in
    let all : sum targets ≡ cores = first.used a asks in
    let few : sum other ≤ cores = second.bounded.together in
    elim (someone_more other targets (length clients)) [
      | inl found ↦
          let b : ℕ = found.0 in
          let within_b : b < length clients = found.1.0 in
          let more_b : target_at other b < target_at targets b = found.1.1 in
          elim (cases_order a b) [
            | inl same ↦ (let m : target_at other a < target_at targets a = subst (λ (k : ℕ). target_at other k < target_at targets k) (sym same) more_b in omega arith)
            | inr differ ↦ elim differ [
              | inl before ↦ not_both_more clients cores targets other a b first second within within_b before more more_b
              | inr after ↦ not_both_more clients cores other targets b a second first within_b within after more_b more
            ]
          ]
      | inr none ↦
          let less : sum targets < sum other = sum-less targets other a
          (λ k h. none k (let s = first.sized in omega arith)) (let s = first.sized in omega arith) more in
          omega arith
    ]

pub IsDecided-answers : (clients : List Client) (cores : ℕ) → IsDecided clients cores
IsDecided-answers clients cores targets other first second place within =
    elim (cases_order (target_at targets place) (target_at other place)) [
      | inl same ↦ same
      | inr differ ↦ elim differ [
        | inl more ↦ absurd (no_more clients cores targets other place first second within more)
        | inr less ↦ absurd (no_more clients cores other targets place second first within less)
      ]
    ]
