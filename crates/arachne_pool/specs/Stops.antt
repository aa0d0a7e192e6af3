-- What becomes of a job by where its slice has stopped.
use Rattle.arachne_core.specs.declared.state.Rest.{Rest}
use Rattle.arachne_core.specs.declared.state.Rest.TheVariants as rest
use Rattle.arachne_pool.specs.declared.stack.JobStop as job
use Rattle.arachne_pool.specs.declared.stack.JobStop.TheVariants.{Goes, Waits, Sleeps, Forks, LetsGo, Ends, NoMemory}

-- the state in which a job is put back: blocked if it waits or sleeps, and otherwise ready
abbrev pub rest_after : job.JobStop → Rest
rest_after Goes = rest.Ready
rest_after Waits = rest.Blocked
rest_after Sleeps = rest.Blocked
rest_after Forks = rest.Ready
rest_after LetsGo = rest.Ready
rest_after Ends = rest.Ready
rest_after NoMemory = rest.Ready
