use Rattle.arachne_contexts.specs.Out.{KeepsOut}
use Rattle.arachne_table.proofs.tests.Bench.go_on.Given as goal

abbrev pub invariant-loop : goal.invariant-loop
invariant-loop g l = g.C.Seats.sits l.self.table.now l.seat × KeepsOut (g.C.Contexts.has l.self.table.now) l.fn.seat l.seat
