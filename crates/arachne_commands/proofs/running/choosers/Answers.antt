use Rattle.arachne_commands.proofs.Choosers.{one_more_chooser}
use Rattle.arachne_commands.proofs.running.choosers.Goals as goal

pub loop-core-preserved : goal.loop-core-preserved
loop-core-preserved c = one_more_chooser c.args.seed c.loop-core.core _ _ _ c.loop-core.invariant c.in_ok-push.ensures.items c.seed_from_u64.ensures
