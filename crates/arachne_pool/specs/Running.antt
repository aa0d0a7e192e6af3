-- The result of `Pool::run`.
use Rattle.std.specs.Prelude.{◌≡◌, ◌+◌}
use Rattle.arachne_pool.specs.Leftover.{count_of}
use Rattle.arachne_pool.specs.declared.running.Unfinished.{Unfinished}
use Rattle.arachne_pool.specs.declared.running.Unfinished.TheVariants.{NotSpawned, Stopped, Lost}
use Rattle.arachne_pool.specs.declared.worker.PoolFault.{PoolFault}
use Rattle.arachne_pool.specs.declared.worker.PoolFault.TheVariants as worker
use Rattle.arachne_team.specs.declared.team.TeamFault.{TeamFault}
use Rattle.arachne_team.specs.declared.team.TeamFault.TheVariants as team

-- the pool's fault for a team of kernel threads that could not start
abbrev pub of_team : TeamFault → PoolFault
of_team team.Memory = worker.Memory
of_team team.KernelThread = worker.KernelThread

-- the fault because of which the job was not run to its end
abbrev pub fault_of : {Job Output : Type 0} → Unfinished Job Output → PoolFault
fault_of (NotSpawned why job) = why
fault_of (Stopped why tally left) = why
fault_of (Lost why) = why

-- true if the error returns the unchanged job, or the unfinished jobs, which with the ended ones are as many as were
-- spawned
abbrev pub HandsBackRun : {Job Output : Type 0} → Job → Unfinished Job Output → Type 0
HandsBackRun job (NotSpawned why back) = back ≡ job
HandsBackRun job (Stopped why tally left) = tally.spawned ≡ tally.ended + count_of left
HandsBackRun job (Lost why) = Unit {0}
