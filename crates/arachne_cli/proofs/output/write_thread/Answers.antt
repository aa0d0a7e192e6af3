use Rattle.arachne_cli.proofs.Lines.{numbers_step}
use Rattle.arachne_cli.proofs.output.write_thread.Goals as goal

pub loop-hold-preserved : goal.loop-hold-preserved
loop-hold-preserved c = numbers_step _ _ _ _ _ c.loop-hold-test.true c.loop-hold.invariant c.in_ok-write.ensures.bytes
