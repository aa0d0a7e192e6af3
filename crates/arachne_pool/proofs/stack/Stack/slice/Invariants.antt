use Rattle.std.proofs.Common.{◌≡◌, ◌≤◌}
use Rattle.arachne_pool.specs.Frames.{CountsEach}
use Rattle.arachne_pool.proofs.stack.Stack.slice.Given as goal

-- after each step it is the same first job, and each job that began or ended is counted
abbrev pub invariant-loop : goal.invariant-loop
invariant-loop g l =
    (l.self.as_spawned ≡ l.initial.self.as_spawned) × (l.left ≤ l.initial.left) × CountsEach l.initial.tally l.tally l.initial.self.many l.self.many
