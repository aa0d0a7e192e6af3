use Rattle.std.proofs.Common.{refl}
use Rattle.arachne_pool.proofs.pool.Pool.close.Goals as goal

-- the worker's counts are those that were looked at
pub returns-then-is_over-clause-each_once : goal.returns-then-is_over-clause-each_once
returns-then-is_over-clause-each_once g c = rw (← c.worker.view_is) (c.is_over.ensures.0 c.if-is_over.true)

pub returns-clause-comes_back : goal.returns-clause-comes_back
returns-clause-comes_back g c = (
  rw (← c.worker.view_is) refl,
  λ same. let counted = c.is_over.ensures.1 (rw (← c.worker.view_is) at same) in cc (counted, c.if-is_over.false),
)
