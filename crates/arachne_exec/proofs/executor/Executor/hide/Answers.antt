use Rattle.arachne_exec.proofs.Allowed.{hide-asks}
use Rattle.arachne_exec.proofs.executor.Executor.hide.Goals as goal

pub fetch_and-requires : goal.fetch_and-requires
fetch_and-requires c = hide-asks _ _ _ c.self.invariant _ c.self.view_is _ _ _ c.seat.invariant _ c.seat.view_is c.requires.own c.args.block c.requires.block _ _ c.requires.shown c.summary_word.ensures c.all_but.ensures
