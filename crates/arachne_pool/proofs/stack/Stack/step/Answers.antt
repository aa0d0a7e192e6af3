use Rattle.std.proofs.Common.{arith}
use Rattle.arachne_pool.proofs.stack.Stack.step.Goals as goal

-- the child is counted as it is forked
pub returns-in-Forks-clause-counts : goal.returns-in-Forks-clause-counts
returns-in-Forks-clause-counts g c = record {
  spawned = omega (arith, c.saturating_add-tally.ensures);
  ended = omega arith;
  each = λ s e. grind (arith, c.saturating_add-tally.ensures, c.put_aside.ensures.1, c.self-inside.view_is, c.requires.running);
}

-- a job is counted as it ends
pub returns-in-Done-clause-counts : goal.returns-in-Done-clause-counts
returns-in-Done-clause-counts g c = record {
  spawned = omega arith;
  ended = omega (arith, c.saturating_add-tally-in-Done.ensures);
  each = λ s e. grind (arith, c.saturating_add-tally-in-Done.ensures, c.pass_on.ensures.same.1, c.self-inside.view_is, c.requires.running);
}
