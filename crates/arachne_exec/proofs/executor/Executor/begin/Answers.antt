use Rattle.arachne_exec.proofs.Allowed.{begin-asks}
use Rattle.arachne_exec.proofs.executor.Executor.begin.Goals as goal

pub load-requires : goal.load-requires
load-requires c = begin-asks _ _ _ c.self.invariant _ c.self.view_is _ _ _ c.seat.invariant _ c.seat.view_is c.requires.own c.args.place c.requires.place _ _ c.requires.newest c.requires.claimed c.mark_word.ensures
