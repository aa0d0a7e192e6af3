use Rattle.std.proofs.Common.{rules, arith}
use Rattle.std.proofs.lemmas.Grind.{common_steps}
use Rattle.arachne_pool.proofs.Together.{RunTogether-enter}
use Rattle.arachne_pool.proofs.stack.Stack.enter.Goals as goal

-- the child runs above the job that awaits it
pub invariant_of-self-2 : goal.invariant_of-self-2
invariant_of-self-2 g c = let together = rw (← c.self-inside.view_is) at c.self.invariant in
    RunTogether-enter _ _ _ _ c.replace-frame.result _ _ _ _ c.in-Some-take_newest.child _ _ _ (search rules) (search rules) (search rules) (search rules)
    (search rules) (grind arith) (grind (arith, common_steps)) (search rules) (search rules) together
