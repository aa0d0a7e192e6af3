use Rattle.arachne_arbiter.proofs.Kept.{IsKept}
use Rattle.arachne_arbiter.proofs.cores.Cores.claim_whole.Given as goal

abbrev pub invariant-loop : goal.invariant-loop
invariant-loop g l = IsKept g.C.Seats.sits g.C.Seats.weight g.C.Contexts.has l.self.table.now l.fn.seat l.seat
