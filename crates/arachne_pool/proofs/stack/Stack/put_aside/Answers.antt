use Rattle.std.proofs.Common.{rules, arith}
use Rattle.arachne_pool.proofs.Together.{RunTogether-aside}
use Rattle.arachne_pool.proofs.stack.Stack.put_aside.Goals as goal

-- the child is the newest of those that are awaited
pub invariant_of-self-in-Ok : goal.invariant_of-self-in-Ok
invariant_of-self-in-Ok g c = let together = rw (← c.self-inside.view_is) at c.self.invariant in
    RunTogether-aside _ _ _ _ _ _ _ c.in-Some-take.child _ _ _ _ (search rules) (search rules) (search rules) (search rules) (search rules) (grind arith)
    (search rules) together
