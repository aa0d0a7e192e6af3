use Rattle.arachne_exec.proofs.Allowed.{spawn-asks}
use Rattle.arachne_exec.proofs.executor.Executor.put_spawned.Goals as goal

pub fetch_or-requires : goal.fetch_or-requires
fetch_or-requires c = spawn-asks _ _ _ c.self.invariant _ c.self.view_is _ _ _ c.seat.invariant _ c.seat.view_is c.requires.own c.args.place c.requires.place _ _ c.requires.newest c.requires.claimed c.requires.named c.requires.shown _ c.ready_word.ensures c.bit.ensures
