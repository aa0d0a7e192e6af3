use Rattle.arachne_machine.proofs.Gone.{Gone}
use Rattle.arachne_machine.proofs.thread.Thread.advance_tallying.Given as goal

abbrev pub invariant-loop-left : goal.invariant-loop-left
invariant-loop-left g l = Gone l.fn.left l.left l.fn.self l.self (g.D.Tallying.due_to l.fn.due) (g.D.Tallying.due_to l.due)

abbrev pub decreases-loop-left : goal.decreases-loop-left
decreases-loop-left g l = l.left
