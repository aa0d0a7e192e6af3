use Rattle.arachne_lock.specs.Views.{IsSeatOf}
use Rattle.arachne_lock_tests.proofs.shortage.asks_at_last.Given as goal

abbrev pub invariant-loop-refused : goal.invariant-loop-refused
invariant-loop-refused l = IsSeatOf l.locks l.seat
