use Rattle.std.proofs.Common.{◌*◌, refl, subst, arith}
use Rattle.arachne_exec.specs.Board.{FoundLast}
use Rattle.arachne_exec.proofs.OneJob.{one-job}
use Rattle.arachne_exec.proofs.laws.names_are_of_one_job.Goals as goal

pub returns : goal.returns
returns c = record {
  generation = λ shards b h place inside. h.names.counted place (omega (arith, inside));
  found = λ shards b h seat view there place inside has mark older is. subst (λ looks. FoundLast b.words place looks) is (h.names.found seat view there place (omega (arith, inside)) has) refl;
  one = λ shards b h place inside job other apart. one-job (64 * shards) b h.keeper place (omega (arith, inside)) job other apart;
}
