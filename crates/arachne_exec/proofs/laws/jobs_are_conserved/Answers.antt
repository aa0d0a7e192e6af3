use Rattle.std.proofs.Common.{arith}
use Rattle.arachne_exec.proofs.laws.jobs_are_conserved.Goals as goal

pub returns : goal.returns
returns c = record {
  all = λ shards b h job some_job. h.balance.balanced job some_job;
  at_place = λ shards b h place job some_job. let placed = h.balance.placed place job some_job in omega (arith, placed);
}
