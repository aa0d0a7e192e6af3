use Rattle.arachne_arbiter.proofs.Kept.{IsKept}
use Rattle.arachne_arbiter.proofs.cores.Cores.move_from.Given as goal

abbrev pub invariant-loop-to : goal.invariant-loop-to
invariant-loop-to g l = IsKept g.C.Seats.sits g.C.Seats.weight g.C.Contexts.has l.self.table.now l.fn.seat l.seat
