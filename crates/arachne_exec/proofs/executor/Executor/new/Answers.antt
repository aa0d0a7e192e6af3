use Rattle.std.proofs.Common.{◌*◌, sym, subst, arith}
use Rattle.arachne_exec.specs.First.{AreFirstWords}
use Rattle.arachne_exec.proofs.Opening.{opens}
use Rattle.arachne_exec.proofs.executor.Executor.new.Goals as goal

pub new-requires : goal.new-requires
new-requires c = opens _ _ _ (subst (AreFirstWords (64 * c.args.shards)) (sym c.as_slice.ensures.value) c.in_ok-words.ensures) (omega (arith, c.in_ok-slots.ensures.0, c.in_ok-slots.slots.ok.0)) c.in_ok-slots.ensures.1
