use Rattle.arachne_grants.proofs.Counts.{AreTaken}
use Rattle.arachne_grants.proofs.owners.take_back.Given as goal

-- the cores so far are their owners' up to the targets, and counted
abbrev pub invariant-take : goal.invariant-take
invariant-take l = AreTaken l.fn.owners l.owners l.targets l.held l.core
