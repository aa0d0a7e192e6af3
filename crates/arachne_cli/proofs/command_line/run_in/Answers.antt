use Rattle.std.proofs.{Common.refl, lemmas.Result.err_from_is_err_and}
use Rattle.arachne_cli.proofs.command_line.run_in.Goals as goal

pub returns-in_err-orders-clause-none : goal.returns-in_err-orders-clause-none
returns-in_err-orders-clause-none c =
    let p = err_from_is_err_and c.from_residual.result c.from_residual.ensures.1 in rw (p.1, p.2) c.in_err-orders.ensures.none

pub returns-clause-asked : goal.returns-clause-asked
returns-clause-asked c = rw (c.in_ok-orders.ensures.orders) c.run_by.ensures.asked

pub returns-clause-orders : goal.returns-clause-orders
returns-clause-orders c = rw (c.in_ok-orders.ensures.orders) refl
