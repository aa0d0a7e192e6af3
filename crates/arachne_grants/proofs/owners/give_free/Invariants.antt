use Rattle.arachne_grants.proofs.Counts.{AreGivenSoFar}
use Rattle.arachne_grants.proofs.owners.give_free.Given as goal

-- the cores so far are given, and all are counted
abbrev pub invariant-hand : goal.invariant-hand
invariant-hand l = AreGivenSoFar l.clients l.fn.owners l.owners l.targets l.held l.core
