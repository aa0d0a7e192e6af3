use Rattle.arachne_sleep.specs.SleepLocks.{AreSeatsOf}
use Rattle.arachne_tests.proofs.sleep.contended.leave_one.Given as goal

abbrev pub invariant-loop : goal.invariant-loop
invariant-loop l = AreSeatsOf l.locks l.seats
