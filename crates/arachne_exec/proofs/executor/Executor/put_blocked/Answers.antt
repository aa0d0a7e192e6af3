use Rattle.std.proofs.Common.{refl}
use Rattle.arachne_exec.proofs.Allowed.{block-asks}
use Rattle.arachne_exec.proofs.executor.Executor.put_blocked.Goals as goal

pub compare_exchange-found-requires : goal.compare_exchange-found-requires
compare_exchange-found-requires c = block-asks _ _ _ c.self.invariant _ c.self.view_is _ _ _ c.seat.invariant _ c.seat.view_is c.requires.own c.args.place c.requires.place _ _ c.requires.newest.1 _ _ c.mark_word.ensures c.requires.unwoken refl
