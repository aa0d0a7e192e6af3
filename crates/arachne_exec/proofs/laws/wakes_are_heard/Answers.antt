use Rattle.std.proofs.Common.{arith}
use Rattle.arachne_exec.proofs.laws.wakes_are_heard.Goals as goal

pub returns : goal.returns
returns c = record {
  blocked = λ shards b h place inside is. omega (arith, is, h.hears.unheard place (omega (arith, inside)));
  heard = λ shards b h place inside. h.hears.marks place (omega (arith, inside));
}
