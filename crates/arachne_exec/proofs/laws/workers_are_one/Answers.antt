use Rattle.std.proofs.Common.{arith}
use Rattle.arachne_exec.proofs.laws.workers_are_one.Goals as goal

pub returns : goal.returns
returns c = record {
  one = λ shards b h worker low. omega (arith, h.sleep.single worker low);
  taken = λ shards b h worker low none. omega (arith, h.sleep.single worker low, none);
}
