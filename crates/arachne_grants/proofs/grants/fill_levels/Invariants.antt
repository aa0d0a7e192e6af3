use Rattle.std.proofs.Common.{◌≡◌, ℕ, ◌<◌, sum_by, take}
use Rattle.arachne_grants.specs.Claims.{gets_before}
use Rattle.arachne_grants.specs.Grants.{client_at, target_at}
use Rattle.arachne_grants.proofs.grants.fill_levels.Given as goal

-- the clients so far have the cores of their claims before the claim
abbrev pub invariant-fill : goal.invariant-fill
invariant-fill l = record {
  given : l.given ≡ sum_by (gets_before l.claim) (take l.place l.clients);
  filled : (k : ℕ) → k < l.place → target_at l.targets k ≡ gets_before l.claim (client_at l.clients k);
}
