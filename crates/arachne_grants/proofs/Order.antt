-- One core more for who has the first claim to it.
use Rattle.std.proofs.Common.{true, ◌≡◌, ◌≢◌, ℕ, ◌+◌, ◌<◌, ◌≤◌, false, List, length, set, arith, inl, inr, sym, ◌∙◌, sum, subst}
use Rattle.std.proofs.lemmas.Bool.{cases_eq}
use Rattle.std.proofs.lemmas.List.{get_or-set_same, get_or-set_other, length-set}
use Rattle.std.proofs.lemmas.List.Sums.{sum_by-set}
use Rattle.arachne_grants.specs.declared.claims.Client.{Client}
use Rattle.arachne_grants.specs.declared.claims.Claim.{Claim}
use Rattle.arachne_grants.specs.Claims.{claim_of, goes_before}
use Rattle.arachne_grants.specs.Grants.{client_at, target_at, claim_at, AsksForMore, IsFirst, IsServed, IsInOrder, IsInTurn, IsBounded, IsUsed}
use Rattle.arachne_grants.proofs.ClaimOrder.{goes_before-later, goes_before-more, goes_before-trans}

-- the numbers with one core more for the client there
abbrev pub with_one : List ℕ → ℕ → List ℕ
with_one targets next = set targets next (target_at targets next + 1)

pub with_one-same : (targets : List ℕ) (next : ℕ) → next < length targets → target_at (with_one targets next) next ≡ target_at targets next + 1
with_one-same targets next h = get_or-set_same targets next _ 0 h

pub with_one-other : (targets : List ℕ) (next place : ℕ) → place ≢ next → target_at (with_one targets next) place ≡ target_at targets place
with_one-other targets next place h = get_or-set_other targets next place _ 0 h

pub with_one-sum : (targets : List ℕ) (next : ℕ) → next < length targets → sum (with_one targets next) ≡ sum targets + 1
with_one-sum targets next h = let e = sum_by-set (λ x. x) targets next (target_at targets next + 1) 0 h in omega arith

-- who asks for more after that has asked for more before
pub AsksForMore-before : (clients : List Client) (targets : List ℕ) (next place : ℕ) → next < length targets
    → AsksForMore clients (with_one targets next) place → AsksForMore clients targets place
AsksForMore-before clients targets next place h more =
    elim (cases_eq place next) [
      | inl same ↦ (more.0, (let e : target_at (with_one targets next) place ≡ target_at targets place + 1 = subst (λ (p : ℕ). target_at (with_one targets next) p ≡ target_at targets p + 1) (sym same) (with_one-same targets next h) in omega (arith, more.1)))
      | inr ne ↦ (more.0, (let e = with_one-other targets next place ne in omega (arith, more.1)))
    ]

pub each-with_one : (clients : List Client) (targets : List ℕ) (next : ℕ) → next < length targets
    → ((place : ℕ) → place < length clients → target_at targets place ≤ (client_at clients place).asks)
    → target_at targets next < (client_at clients next).asks
    → (place : ℕ) → place < length clients → target_at (with_one targets next) place ≤ (client_at clients place).asks
each-with_one clients targets next h each asks place within =
    elim (cases_eq place next) [
      | inl same ↦ rw same (let e = with_one-same targets next h in omega arith)
      | inr ne ↦ (let e = with_one-other targets next place ne in let was = each place within in omega arith)
    ]

-- a claim that is not before another isn't before it with one core more
claim-with_one : (clients : List Client) (targets : List ℕ) (next place : ℕ) (claim : Claim) → next < length targets
    → goes_before (claim_at clients targets place) claim ≡ false
    → goes_before (claim_at clients (with_one targets next) place) claim ≡ false
claim-with_one clients targets next place claim h none =
    elim (cases_eq place next) [
      | inl same ↦
          let e : target_at (with_one targets next) place ≡ target_at targets place + 1 = subst (λ (p : ℕ). target_at (with_one targets next) p ≡ target_at targets p + 1) (sym same) (with_one-same targets next h) in
          subst (λ (t : ℕ). goes_before (claim_of (client_at clients place) t) claim ≡ false) (sym e)
          (goes_before-later (claim_at clients targets place) (claim_of (client_at clients place) (target_at targets place + 1)) claim
          (goes_before-more (client_at clients place) (target_at targets place)) none)
      | inr ne ↦
          subst (λ (t : ℕ). goes_before (claim_of (client_at clients place) t) claim ≡ false) (sym (with_one-other targets next place ne)) none
    ]

pub IsInOrder-with_one : (clients : List Client) (targets : List ℕ) (next : ℕ) → next < length targets
    → IsInOrder clients targets → IsFirst clients targets (length clients) next → IsInOrder clients (with_one targets next)
IsInOrder-with_one clients targets next h order first place other before more within is =
    let was : AsksForMore clients targets place = AsksForMore-before clients targets next place h more in
    claim-with_one clients targets next place _ h
    (elim (cases_eq other next) [
      | inl same ↦
          let e : before ≡ target_at targets other = (let now : target_at (with_one targets next) other ≡ target_at targets other + 1 = subst (λ (p : ℕ). target_at (with_one targets next) p ≡ target_at targets p + 1) (sym same) (with_one-same targets next h) in omega arith) in
          subst (λ (t : ℕ). goes_before (claim_at clients targets place) (claim_of (client_at clients other) t) ≡ false) (sym e)
          (subst (λ (p : ℕ). goes_before (claim_at clients targets place) (claim_at clients targets p) ≡ false) (sym same) (first.first place was.0 was))
      | inr ne ↦ order place other before was within (sym (with_one-other targets next other ne) ∙ is)
    ])

-- a claim that is later than another is so with one core more
later-with_one : (clients : List Client) (targets : List ℕ) (next place : ℕ) (claim : Claim) → next < length targets
    → goes_before claim (claim_at clients targets place) ≡ true
    → goes_before claim (claim_at clients (with_one targets next) place) ≡ true
later-with_one clients targets next place claim h is =
    elim (cases_eq place next) [
      | inl same ↦
          let e : target_at (with_one targets next) place ≡ target_at targets place + 1 = subst (λ (p : ℕ). target_at (with_one targets next) p ≡ target_at targets p + 1) (sym same) (with_one-same targets next h) in
          subst (λ (t : ℕ). goes_before claim (claim_of (client_at clients place) t) ≡ true) (sym e)
          (goes_before-trans claim (claim_at clients targets place) (claim_of (client_at clients place) (target_at targets place + 1)) is
          (goes_before-more (client_at clients place) (target_at targets place)))
      | inr ne ↦
          subst (λ (t : ℕ). goes_before claim (claim_of (client_at clients place) t) ≡ true) (sym (with_one-other targets next place ne)) is
    ]

IsInTurn-with_one : (clients : List Client) (targets : List ℕ) (next : ℕ) → next < length targets
    → IsInTurn clients targets → IsFirst clients targets (length clients) next → IsInTurn clients (with_one targets next)
IsInTurn-with_one clients targets next h turn first place other before more after within is =
    let was : AsksForMore clients targets place = AsksForMore-before clients targets next place h more in
    later-with_one clients targets next place _ h
    (elim (cases_eq other next) [
      | inl same ↦
          let e : before ≡ target_at targets other = (let now : target_at (with_one targets next) other ≡ target_at targets other + 1 = subst (λ (p : ℕ). target_at (with_one targets next) p ≡ target_at targets p + 1) (sym same) (with_one-same targets next h) in omega arith) in
          subst (λ (t : ℕ). goes_before (claim_of (client_at clients other) t) (claim_at clients targets place) ≡ true) (sym e)
          (subst (λ (p : ℕ). goes_before (claim_at clients targets p) (claim_at clients targets place) ≡ true) (sym same)
          (first.earlier place (omega arith) was))
      | inr ne ↦ turn place other before was after within (sym (with_one-other targets next other ne) ∙ is)
    ])

-- the properties of the numbers once `given` cores are given
pub record AreSoFar (clients : List Client) (given : ℕ) (targets : List ℕ) : Type 0 where
  pub sized : length targets ≡ length clients
  pub total : sum targets ≡ given
  pub each : (place : ℕ) → place < length clients → target_at targets place ≤ (client_at clients place).asks
  pub order : IsInOrder clients targets
  pub turn : IsInTurn clients targets

pub AreSoFar-more : (clients : List Client) (given : ℕ) (targets : List ℕ) (next : ℕ) → AreSoFar clients given targets
    → IsFirst clients targets (length clients) next → AreSoFar clients (given + 1) (with_one targets next)
AreSoFar-more clients given targets next so_far first =
    let h : next < length targets = (let e = so_far.sized in let w = first.within in omega arith) in
    record {
      sized = length-set targets next _ ∙ so_far.sized;
      total = (let e = with_one-sum targets next h in let t = so_far.total in omega arith);
      each = each-with_one clients targets next h so_far.each first.asks.1;
      order = IsInOrder-with_one clients targets next h so_far.order first;
      turn = IsInTurn-with_one clients targets next h so_far.turn first;
    }

pub AreSoFar-bounded : (clients : List Client) (given cores : ℕ) (targets : List ℕ) → AreSoFar clients given targets → given ≤ cores
    → IsBounded clients cores targets
AreSoFar-bounded clients given cores targets so_far few = record {
  each = so_far.each;
  together = (let e = so_far.total in omega arith);
}

pub IsUsed-served : (clients : List Client) (cores : ℕ) (targets : List ℕ) → IsServed clients targets (length clients)
    → IsUsed clients cores targets
IsUsed-served clients cores targets served place more = absurd (served place more.0 more)
