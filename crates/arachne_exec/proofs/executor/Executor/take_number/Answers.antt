use Rattle.arachne_exec.proofs.Allowed.{register-asks}
use Rattle.arachne_exec.proofs.executor.Executor.take_number.Goals as goal

pub fetch_and-found-requires : goal.fetch_and-found-requires
fetch_and-found-requires c = register-asks _ _ _ c.self.invariant _ c.self.view_is _ _ _ c.seat.invariant _ c.seat.view_is c.requires.own c.args.worker _ c.requires.worker.0 c.requires.worker.1 c.all_but.ensures
