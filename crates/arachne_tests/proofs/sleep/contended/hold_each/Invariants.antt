use Rattle.arachne_sleep.specs.SleepLocks.{AreSeatsOf}
use Rattle.arachne_tests.proofs.sleep.contended.hold_each.Given as goal

abbrev pub invariant-loop-k : goal.invariant-loop-k
invariant-loop-k l = AreSeatsOf l.locks l.seats
