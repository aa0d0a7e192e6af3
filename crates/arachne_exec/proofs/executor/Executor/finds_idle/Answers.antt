use Rattle.std.proofs.Common.{◌∙◌, ap}
use Rattle.arachne_exec.specs.{Layout.worker_of, Changes.owing}
use Rattle.arachne_exec.proofs.{Told.live-either, Allowed.look-idle-asks}
use Rattle.arachne_exec.proofs.executor.Executor.finds_idle.Goals as goal

pub load-found-requires : goal.load-found-requires
load-found-requires c = look-idle-asks _ _ _ c.self.invariant _ c.self.view_is _ _ _ c.seat.invariant _ c.seat.view_is c.requires.own c.args.shard c.requires.owed

pub invariant_of-seat : goal.invariant_of-seat
invariant_of-seat c = live-either c.load-found.result (worker_of c.args.shard) c.seat.inside.seat.me c.load-found.new.seat.me (owing 0 c.seat.inside.seat.me.0.known) c.seat.invariant (c.load-found.ensures.2 c.args.shard (ap (λ v. v.known.owes) c.seat.view_is ∙ c.requires.owed))
