use Rattle.arachne_grants.proofs.Counts.{AreCounted}
use Rattle.arachne_grants.proofs.owners.count_all.Given as goal

-- the cores so far are counted
abbrev pub invariant-each : goal.invariant-each
invariant-each l = AreCounted l.owners l.held l.owner-index
