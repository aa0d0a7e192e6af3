use Rattle.std.proofs.Common.{arith}
use Rattle.arachne_exec.proofs.Allowed.{renew-asks}
use Rattle.arachne_exec.proofs.executor.Executor.renew.Goals as goal

pub swap-requires : goal.swap-requires
swap-requires c = renew-asks _ _ _ c.self.invariant _ c.self.view_is _ _ _ c.seat.invariant _ c.seat.view_is c.requires.own c.args.place c.requires.place _ _ _ c.requires.newest.2 _ _ c.mark_word.ensures (omega arith) c.requires.generation
