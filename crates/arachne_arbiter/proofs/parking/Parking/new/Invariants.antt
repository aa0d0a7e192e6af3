use Rattle.std.proofs.Common.{◌≡◌, vec_len}
use Rattle.arachne_arbiter.proofs.parking.Parking.new.Given as goal

abbrev pub invariant-loop : goal.invariant-loop
invariant-loop l = vec_len l.parkers ≡ l.counter
