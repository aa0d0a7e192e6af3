use Rattle.example_parts.proofs.table.take_all.Given as goal

-- between two rounds, and between two places, the seat is the table's, with nothing out
abbrev pub invariant-loop : goal.invariant-loop
invariant-loop g l = g.C.Seats.sits l.table l.seat × g.C.Seats.idle l.table l.seat

abbrev pub invariant-loop-index : goal.invariant-loop-index
invariant-loop-index g l = g.C.Seats.sits l.table l.seat × g.C.Seats.idle l.table l.seat
