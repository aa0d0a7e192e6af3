-- A fork is answered. The thread goes on past it, and all else that callers see is unchanged.
use Rattle.std.proofs.Common.{◌≡◌, ap, ◌∙◌, subst}
use Rattle.arachne_machine.specs.{Kept.nested, Nested.pending_in, Runs.after_fork, Steps.{Turns, top}, Ending.locks_of}
use Rattle.arachne_machine.proofs.{Answering.{IsPast, SeenAnswered, fork_past}, thread.Thread.forked.Goals.After-forked}
use Rattle.arachne_machine.proofs.thread.Thread.forked.Goals as goal

past : (c : goal.After-forked) → IsPast c.self.inside.state.value c.forked.new.self c.self.inside.placed.items × (locks_of (top c.forked.new.self) ≡ locks_of (top c.self.inside.state.value))
past c =
    let new = c.forked.new.self in
    fork_past c.self.inside.state.value new c.self.inside.placed.items c.self.invariant (ap pending_in c.self.view_is ∙ c.requires)
    (subst (λ s. Turns s new (after_fork s.control)) c.deref_mut.ensures.value c.forked.ensures)

-- the view that callers have of it
seen : (c : goal.After-forked) → SeenAnswered c.args.self.now (nested c.forked.new.self c.self.inside.placed.items)
seen c = subst (λ v. SeenAnswered v (nested c.forked.new.self c.self.inside.placed.items)) c.self.view_is (past c).0.seen

pub invariant_of-self : goal.invariant_of-self
invariant_of-self c = (past (goal.at.invariant_of-self c).After-forked).0.kept

pub returns-clause-whole : goal.returns-clause-whole
returns-clause-whole c = (seen (goal.at.returns-clause-whole c).After-forked).whole

pub returns-clause-same : goal.returns-clause-same
returns-clause-same c = (seen (goal.at.returns-clause-same c).After-forked).same

pub returns-clause-holds : goal.returns-clause-holds
returns-clause-holds c = (seen (goal.at.returns-clause-holds c).After-forked).holds

pub returns-clause-locks : goal.returns-clause-locks
returns-clause-locks c = (past (goal.at.returns-clause-locks c).After-forked).1 ∙ ap (λ v. v.running.locks) c.self.view_is

pub returns-clause-others : goal.returns-clause-others
returns-clause-others c = (seen (goal.at.returns-clause-others c).After-forked).others

pub returns-clause-pending : goal.returns-clause-pending
returns-clause-pending c = (past (goal.at.returns-clause-pending c).After-forked).0.pending

pub returns-clause-work : goal.returns-clause-work
returns-clause-work c = (seen (goal.at.returns-clause-work c).After-forked).work

pub returns-clause-trace : goal.returns-clause-trace
returns-clause-trace c = (seen (goal.at.returns-clause-trace c).After-forked).trace
