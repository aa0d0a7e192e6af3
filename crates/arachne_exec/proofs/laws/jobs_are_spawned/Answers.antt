use Rattle.std.proofs.Common.{arith}
use Rattle.arachne_exec.proofs.laws.jobs_are_spawned.Goals as goal

pub returns : goal.returns
returns c = λ shards b h place inside. h.turns.turns place (omega (arith, inside))
