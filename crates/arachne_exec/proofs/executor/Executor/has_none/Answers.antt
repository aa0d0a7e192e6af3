use Rattle.arachne_exec.proofs.Allowed.{look-again-asks}
use Rattle.arachne_exec.proofs.executor.Executor.has_none.Goals as goal

pub load-requires : goal.load-requires
load-requires c = look-again-asks _ _ _ c.self.invariant _ c.self.view_is _ _ _ c.seat.invariant _ c.seat.view_is c.requires.own c.args.block c.requires.block _ c.requires.owed c.ready_word.ensures
