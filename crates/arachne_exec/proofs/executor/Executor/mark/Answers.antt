use Rattle.std.proofs.Common.{refl}
use Rattle.arachne_exec.proofs.Allowed.{mark-asks}
use Rattle.arachne_exec.proofs.executor.Executor.mark.Goals as goal

pub compare_exchange-found-requires : goal.compare_exchange-found-requires
compare_exchange-found-requires c = mark-asks _ _ _ c.self.invariant _ c.self.view_is _ _ _ c.seat.invariant _ c.seat.view_is c.requires.own c.args.place c.requires.place _ _ _ c.mark_word.ensures c.requires.unwoken refl
