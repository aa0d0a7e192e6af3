use Rattle.arachne_lock.specs.Views.{IsSeatOf}
use Rattle.arachne_lock_tests.proofs.rows.first_wrong.Given as goal

abbrev pub invariant-loop-k : goal.invariant-loop-k
invariant-loop-k l = IsSeatOf l.locks l.seat
