use Rattle.std.proofs.Common.{refl}
use Rattle.arachne_exec.proofs.Allowed.{retire-asks}
use Rattle.arachne_exec.proofs.executor.Executor.retire.Goals as goal

pub swap-requires : goal.swap-requires
swap-requires c = retire-asks _ _ _ c.self.invariant _ c.self.view_is _ _ _ c.seat.invariant _ c.seat.view_is c.requires.own c.args.place c.requires.place _ _ c.requires.newest.1 c.requires.last _ c.mark_word.ensures refl
