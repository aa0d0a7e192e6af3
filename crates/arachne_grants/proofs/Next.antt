-- Who gets the next core, as a loop looks at one client after another.
use Rattle.std.proofs.Common.{◌≡◌, ℕ, ◌+◌, ◌≤◌, true, false, List, arith, below_more}
use Rattle.arachne_grants.specs.declared.claims.Client.{Client}
use Rattle.arachne_grants.specs.Claims.{goes_before}
use Rattle.arachne_grants.specs.Grants.{client_at, target_at, claim_at, AsksForMore, IsFirst, IsServed}
use Rattle.arachne_grants.proofs.ClaimOrder.{goes_before-cotrans, goes_before-earlier, goes_before-same}

pub IsServed-skip : (clients : List Client) (targets : List ℕ) (n : ℕ) → IsServed clients targets n
    → (client_at clients n).asks ≤ target_at targets n → IsServed clients targets (n + 1)
IsServed-skip clients targets n served enough = below_more _ n served (λ asks. absurd (omega (arith, asks.1)))

pub IsFirst-only : (clients : List Client) (targets : List ℕ) (n : ℕ) → IsServed clients targets n
    → AsksForMore clients targets n → IsFirst clients targets (n + 1) n
IsFirst-only clients targets n served asks = record {
  within = omega arith;
  asks = asks;
  first = below_more _ n (λ place h more. absurd (served place h more)) (λ more. goes_before-same (claim_at clients targets n));
  earlier = λ place h more. absurd (served place h more);
}

pub IsFirst-skip : (clients : List Client) (targets : List ℕ) (n next : ℕ) → IsFirst clients targets n next
    → (client_at clients n).asks ≤ target_at targets n → IsFirst clients targets (n + 1) next
IsFirst-skip clients targets n next is enough = record {
  within = let h = is.within in omega arith;
  asks = is.asks;
  first = below_more _ n is.first (λ more. absurd (omega (arith, more.1)));
  earlier = is.earlier;
}

pub IsFirst-keep : (clients : List Client) (targets : List ℕ) (n next : ℕ) → IsFirst clients targets n next
    → goes_before (claim_at clients targets n) (claim_at clients targets next) ≡ false → IsFirst clients targets (n + 1) next
IsFirst-keep clients targets n next is later = record {
  within = let h = is.within in omega arith;
  asks = is.asks;
  first = below_more _ n is.first (λ more. later);
  earlier = is.earlier;
}

pub IsFirst-take : (clients : List Client) (targets : List ℕ) (n next : ℕ) → IsFirst clients targets n next
    → AsksForMore clients targets n
    → goes_before (claim_at clients targets n) (claim_at clients targets next) ≡ true → IsFirst clients targets (n + 1) n
IsFirst-take clients targets n next is asks before = record {
  within = omega arith;
  asks = asks;
  first = below_more _ n
      (λ place h more. goes_before-earlier (claim_at clients targets place) (claim_at clients targets n) (claim_at clients targets next) before (is.first place h more))
      (λ more. goes_before-same (claim_at clients targets n));
  earlier = λ place h more.
      goes_before-cotrans (claim_at clients targets n) (claim_at clients targets place) (claim_at clients targets next) before
      (is.first place h more);
}
