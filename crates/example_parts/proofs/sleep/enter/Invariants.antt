use Rattle.arachne_sleep.specs.Views.{IsSeatOf}
use Rattle.example_parts.proofs.sleep.enter.Given as goal

abbrev pub invariant-loop : goal.invariant-loop
invariant-loop g l = IsSeatOf l.lock l.seat

abbrev pub invariant-loop-2 : goal.invariant-loop-2
invariant-loop-2 g l = IsSeatOf l.lock l.seat
