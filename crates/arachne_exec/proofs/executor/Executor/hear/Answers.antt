use Rattle.arachne_exec.proofs.Allowed.{hear-asks}
use Rattle.arachne_exec.proofs.executor.Executor.hear.Goals as goal

pub fetch_and-requires : goal.fetch_and-requires
fetch_and-requires c = hear-asks _ _ _ c.self.invariant _ c.self.view_is _ _ _ c.seat.invariant _ c.seat.view_is c.requires.own c.args.place c.requires.place _ _ _ c.requires.newest.2 c.mark_word.ensures
