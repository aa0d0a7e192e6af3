use Rattle.arachne_jobs.specs.Views.{IsPassOf}
use Rattle.arachne_run.proofs.machine.empty.Given as goal

abbrev pub invariant-loop : goal.invariant-loop
invariant-loop g l = IsPassOf l.tickets l.rest
