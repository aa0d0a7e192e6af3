use Rattle.std.proofs.Common.{arith, refl, ◌++◌, map, reverse}
use Rattle.std.proofs.lemmas.List.{length-append, length-map, length-reverse}
use Rattle.arachne_pool.specs.Jobs.{children_of}
use Rattle.arachne_pool.proofs.Counts.{length-children}
use Rattle.arachne_pool.proofs.stack.Stack.into_jobs.Goals as goal

-- each part of the list is where it was
pub returns-clause-jobs : goal.returns-clause-jobs
returns-clause-jobs g c = rw (← c.self.view_is) (rw c.into_aside.ensures.0 (rw c.unless_ended-top.ensures.job (rw (← c.top.view_is) refl)))

-- the list has a child for each that was counted
pub returns-clause-many : goal.returns-clause-many
returns-clause-many g c =
    let below = map (λ f. f.job) (reverse c.self.inside.below.items) in
    let begun = children_of c.unless_ended-top.result below in
    let aside = reverse c.into_aside.result.items in
    rw (← c.self.view_is) (rw (length-children c.self.inside.child (aside ++ begun)) (rw (length-append aside begun) (rw (length-reverse c.into_aside.result.items) (rw (c.unless_ended-top.ensures.count below) (rw (length-map (reverse c.self.inside.below.items) (λ f. f.job)) (rw (length-reverse c.self.inside.below.items) (omega (arith, c.into_aside.ensures.1))))))))
