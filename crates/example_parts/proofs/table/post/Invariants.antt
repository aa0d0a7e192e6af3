use Rattle.std.proofs.Common.{◌≤◌}
use Rattle.example_parts.proofs.table.post.Given as goal

-- between two rounds the seat is the table's, with nothing out
abbrev pub invariant-loop : goal.invariant-loop
invariant-loop g l = g.C.Seats.sits l.table l.seat × g.C.Seats.idle l.table l.seat × (l.number ≤ 1000)
