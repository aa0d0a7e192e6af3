use Rattle.arachne_exec.proofs.Allowed.{rest-asks}
use Rattle.arachne_exec.proofs.executor.Executor.set_idle.Goals as goal

pub fetch_or-requires : goal.fetch_or-requires
fetch_or-requires c = rest-asks _ _ _ c.self.invariant _ c.self.view_is _ _ _ c.seat.invariant _ c.seat.view_is c.requires.own c.args.worker _ c.requires.worker.0 c.bit.ensures
