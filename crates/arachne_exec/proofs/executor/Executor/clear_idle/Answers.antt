use Rattle.arachne_exec.proofs.Allowed.{rise-asks}
use Rattle.arachne_exec.proofs.executor.Executor.clear_idle.Goals as goal

pub fetch_and-requires : goal.fetch_and-requires
fetch_and-requires c = rise-asks _ _ _ c.self.invariant _ c.self.view_is _ _ _ c.seat.invariant _ c.seat.view_is c.requires.own c.args.worker _ c.requires.worker.0 c.all_but.ensures
