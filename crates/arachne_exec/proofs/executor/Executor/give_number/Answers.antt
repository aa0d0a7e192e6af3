use Rattle.arachne_exec.proofs.Allowed.{leave-asks}
use Rattle.arachne_exec.proofs.executor.Executor.give_number.Goals as goal

pub fetch_or-requires : goal.fetch_or-requires
fetch_or-requires c = leave-asks _ _ _ c.self.invariant _ c.self.view_is _ _ _ c.seat.invariant _ c.seat.view_is c.requires.own c.args.worker _ c.requires.worker.0 c.requires.worker.1 c.bit.ensures
