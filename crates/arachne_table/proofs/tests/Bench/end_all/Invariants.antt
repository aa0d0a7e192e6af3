use Rattle.arachne_table.proofs.tests.Bench.end_all.Given as goal

abbrev pub invariant-loop-index : goal.invariant-loop-index
invariant-loop-index g l = g.C.Seats.sits l.self.table.now l.work.seat × g.C.Seats.idle l.self.table.now l.work.seat
