use Rattle.std.proofs.Common.{arith}
use Rattle.arachne_exec.proofs.laws.free_places_are_empty.Goals as goal

pub returns : goal.returns
returns c = λ shards b h place inside free. h.keeper.empty place (omega (arith, inside)) free
