use Rattle.arachne_sleep.specs.SleepLocks.{AreSeatsOf}
use Rattle.arachne_tests.proofs.sleep.contended.enter_one.Given as goal

abbrev pub invariant-loop : goal.invariant-loop
invariant-loop l = AreSeatsOf l.locks l.seats

abbrev pub invariant-loop-2 : goal.invariant-loop-2
invariant-loop-2 l = AreSeatsOf l.locks l.seats
