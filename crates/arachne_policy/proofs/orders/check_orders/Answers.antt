use Rattle.std.proofs.Common.{below_more, add-one, refl, arith, ap, sym, ◌∙◌}
use Rattle.arachne_policy.specs.Orders.{order_fault, order_at}
use Rattle.arachne_policy.proofs.InOrder.{AreInOrder-from_none}
use Rattle.arachne_policy.proofs.orders.check_orders.Goals as goal

pub loop-index-preserved : goal.loop-index-preserved
loop-index-preserved c = record {
  due = rw add-one refl;
  none = below_more _ _ c.loop-index.invariant.none (ap (λ previous. order_fault c.args.cores previous (order_at c.args.orders.now c.loop-index.index)) (sym c.loop-index.invariant.due) ∙ sym c.fault.ensures ∙ c.in_default.is);
}

pub returns-clause-accepts : goal.returns-clause-accepts
returns-clause-accepts c = (λ _. AreInOrder-from_none c.args.cores c.args.orders.now (λ place h. c.loop-index.invariant.none place (omega arith)), λ _. refl)
