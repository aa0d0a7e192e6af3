use Rattle.arachne_exec.proofs.Allowed.{find-shown-asks}
use Rattle.arachne_exec.proofs.executor.Executor.finds_shown.Goals as goal

pub load-found-requires : goal.load-found-requires
load-found-requires c = find-shown-asks _ _ _ c.self.invariant _ c.self.view_is _ _ _ c.seat.invariant _ c.seat.view_is c.requires.own c.args.block c.requires.block _ c.requires.owed c.summary_word.ensures
