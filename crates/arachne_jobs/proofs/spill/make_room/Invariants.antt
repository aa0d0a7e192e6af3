use Rattle.arachne_jobs.specs.Views.{IsPassOf}
use Rattle.arachne_jobs.proofs.spill.make_room.Given as goal

abbrev pub invariant-loop : goal.invariant-loop
invariant-loop g l = IsPassOf l.tickets l.pass
