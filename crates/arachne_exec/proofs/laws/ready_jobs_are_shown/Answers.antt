use Rattle.std.proofs.Common.{arith}
use Rattle.arachne_exec.proofs.laws.ready_jobs_are_shown.Goals as goal

pub returns : goal.returns
returns c = record {
  shown = λ shards b h place inside is. omega (arith, h.keeper.kept place (omega (arith, inside)), is.not_free, is.not_blocked, is.not_in_hand);
  one_keeper = λ shards b h place inside. h.keeper.kept place (omega (arith, inside));
}
