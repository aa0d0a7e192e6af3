use Rattle.arachne_jobs.specs.Views.{IsPassOf}
use Rattle.arachne_tests.proofs.spill.fill.Given as goal

abbrev pub invariant-loop-tag : goal.invariant-loop-tag
invariant-loop-tag g l = IsPassOf l.queue l.pass
