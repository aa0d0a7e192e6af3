use Rattle.std.proofs.Common.{◌≡◌, ◌+◌, sum_by, take}
use Rattle.arachne_grants.specs.Claims.{gets_before}
use Rattle.arachne_grants.proofs.grants.are_enough.Given as goal

-- the cores that are left, and those that the clients so far get, are all cores
abbrev pub invariant-each : goal.invariant-each
invariant-each l = l.left + sum_by (gets_before l.claim) (take l.client-index l.clients) ≡ l.cores
