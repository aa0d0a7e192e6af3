use Rattle.arachne_lock.specs.Views.{IsSeatOf}
use Rattle.arachne_lock_tests.proofs.shortage.all_ask.Given as goal

abbrev pub invariant-loop-who : goal.invariant-loop-who
invariant-loop-who l = IsSeatOf l.locks l.seat
