use Rattle.arachne_table.proofs.tests.Bench.go_through.Given as goal

abbrev pub invariant-loop : goal.invariant-loop
invariant-loop g l = g.C.Seats.sits l.self.table.now l.seat × g.C.Seats.idle l.self.table.now l.seat
