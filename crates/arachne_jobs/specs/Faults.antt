-- The fault of a job if a child was not joined, or could not begin inside its parent.
use Rattle.arachne_machine.specs.{Outcome.Finished, declared.pause.{NotJoined.NotJoined, NotPlaced.NotPlaced}}
use Rattle.arachne_machine.specs.declared.pause.NotJoined.TheVariants as not_joined
use Rattle.arachne_machine.specs.declared.pause.NotPlaced.TheVariants as not_placed
use Rattle.arachne_jobs.specs.declared.fault.JobFault.{JobFault, TheVariants.{Memory, Foreign}}

abbrev pub of_join : NotJoined Finished → JobFault
of_join (not_joined.Foreign outcome) = Foreign
of_join (not_joined.Memory outcome) = Memory

abbrev pub of_place : NotPlaced → JobFault
of_place (not_placed.Foreign child) = Foreign
of_place (not_placed.Memory child) = Memory
