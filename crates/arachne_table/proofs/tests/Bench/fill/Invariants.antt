use Rattle.arachne_contexts.specs.Out.{KeepsOut}
use Rattle.arachne_table.proofs.tests.Bench.fill.Given as goal

abbrev pub invariant-loop-tag : goal.invariant-loop-tag
invariant-loop-tag g l = g.C.Seats.sits l.self.table.now l.seat × KeepsOut (g.C.Contexts.has l.self.table.now) l.fn.seat l.seat
