use Rattle.arachne_exec.proofs.Allowed.{look-asks}
use Rattle.arachne_exec.proofs.executor.Executor.look.Goals as goal

pub load-requires : goal.load-requires
load-requires c = look-asks _ _ _ c.self.invariant _ c.self.view_is _ _ _ c.seat.invariant _ c.seat.view_is c.requires.own _ c.requires.inside c.requires.calm
