use Rattle.arachne_table.proofs.tests.contention.all_rounds.Given as goal

abbrev pub invariant-loop : goal.invariant-loop
invariant-loop g l = g.C.Seats.sits l.table l.work.seat × g.C.Seats.idle l.table l.work.seat

abbrev pub invariant-loop-core : goal.invariant-loop-core
invariant-loop-core g l = g.C.Seats.sits l.table l.work.seat × g.C.Seats.idle l.table l.work.seat
