use Rattle.arachne_exec.proofs.Allowed.{show-asks}
use Rattle.arachne_exec.proofs.executor.Executor.put_shown.Goals as goal

pub fetch_or-requires : goal.fetch_or-requires
fetch_or-requires c = show-asks _ _ _ c.self.invariant _ c.self.view_is _ _ _ c.seat.invariant _ c.seat.view_is c.requires.own c.args.block c.requires.block _ _ c.requires.owed.0 c.requires.owed.1 c.summary_word.ensures c.bit.ensures
