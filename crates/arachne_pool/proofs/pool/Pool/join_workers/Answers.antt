use Rattle.std.proofs.Common.{rules, Option, None, Some, IfSome}
use Rattle.std.specs.Option.{option_or}
use Rattle.arachne_pool.specs.Workers.{IsArbiterFor}
use Rattle.arachne_pool.proofs.pool.Pool.join_workers.Goals as goal

-- what either has is so of the one that is kept
option_or_has : {A : Type 0} (P : A → Type 0) (own theirs : Option A) → IfSome own P → IfSome theirs P → IfSome (option_or own theirs) P
option_or_has P None theirs p q = q
option_or_has P (Some x) theirs p q = p

-- the seat is joined of both, and the orders are of one of them
pub returns-clause-both : goal.returns-clause-both
returns-clause-both g c =
    let own : IsArbiterFor c.args.self.now.cores c.worker.inside.state.orders = search rules in
    let theirs : IsArbiterFor c.args.self.now.cores c.other.inside.state.orders = search rules in
    (c.join_seats.ensures.idle, rw c.or.ensures (option_or_has _ c.take.result c.take-2.result (rw c.take.ensures.value own) (rw c.take-2.ensures.value theirs)))
