use Rattle.std.proofs.Common.{arith}
use Rattle.arachne_cli.proofs.{OrderLists.{next_order, no_order}, OrderWords.order_is}
use Rattle.arachne_cli.proofs.command_line.orders_in.Goals as goal

pub returns-in_default-clause-none : goal.returns-in_default-clause-none
returns-in_default-clause-none c =
    no_order c.args.words.now c.loop-index.index _ c.loop-index.orders.items (omega arith) c.loop-index.invariant
    (order_is _ _ c.in_default.ensures)

pub loop-index-preserved : goal.loop-index-preserved
loop-index-preserved c =
    rw c.in-Ok.ensures.items (next_order c.args.words.now c.loop-index.index _ c.loop-index.orders.items c.in-Some.order (omega arith) c.loop-index.invariant
    (order_is _ _ c.in-Some.ensures))
