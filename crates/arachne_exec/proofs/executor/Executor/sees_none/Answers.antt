use Rattle.arachne_exec.proofs.Allowed.{next-asks}
use Rattle.arachne_exec.proofs.executor.Executor.sees_none.Goals as goal

pub load-requires : goal.load-requires
load-requires c = next-asks _ _ _ c.self.invariant _ c.self.view_is _ _ _ c.seat.invariant _ c.seat.view_is c.requires.own _ c.args.worker c.args.next c.summary_word.ensures c.requires.worker.0 c.requires.worker.1 c.requires.next c.requires.calm
