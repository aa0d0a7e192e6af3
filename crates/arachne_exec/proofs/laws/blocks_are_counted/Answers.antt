use Rattle.std.proofs.Common.{arith}
use Rattle.arachne_exec.proofs.laws.blocks_are_counted.Goals as goal

pub returns : goal.returns
returns c = λ shards b h place inside. h.hears.rests place (omega (arith, inside))
