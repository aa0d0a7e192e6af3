use Rattle.arachne_sleep.specs.Views.{IsSeatOf}
use Rattle.example_parts.proofs.sleep.leave.Given as goal

abbrev pub invariant-loop : goal.invariant-loop
invariant-loop g l = IsSeatOf l.lock l.seat
