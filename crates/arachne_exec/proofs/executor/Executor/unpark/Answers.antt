use Rattle.arachne_exec.proofs.Allowed.{unpark-asks}
use Rattle.arachne_exec.proofs.executor.Executor.unpark.Goals as goal

pub fetch_and-found-requires : goal.fetch_and-found-requires
fetch_and-found-requires c = unpark-asks _ _ _ c.self.invariant _ c.self.view_is _ _ _ c.seat.invariant _ c.seat.view_is c.requires.own c.args.shard _ c.requires.owed c.all_but.ensures
