-- The release of a lock is answered. The thread goes on past it, the lock is the newest that it held, and all else that
-- callers see is unchanged.
use Rattle.std.proofs.Common.{◌≡◌, ◌∷◌, ap, sym, ◌∙◌, subst}
use Rattle.arachne_machine.specs.{Kept.nested, Steps.{Turns, pending_of, top}, Ending.locks_of}
use Rattle.arachne_machine.specs.declared.frame.Control.TheVariants.{Give}
use Rattle.arachne_machine.proofs.{Answering.{IsPast, SeenAnswered, free_past}, thread.Thread.freed.Goals.After-freed}
use Rattle.arachne_machine.proofs.thread.Thread.freed.Goals as goal

past : (c : goal.After-freed) → IsPast c.self.inside.state.value c.freed.new.self c.self.inside.placed.items × (locks_of (top c.self.inside.state.value) ≡ c.freed.ensures.0 ∷ locks_of (top c.freed.new.self))
past c =
    let new = c.freed.new.self in
    let is = c.deref_mut.ensures.value in
    let e = c.freed.ensures in
    free_past c.self.inside.state.value new c.self.inside.placed.items e.0 e.1 c.self.invariant (ap (λ s. s.control) (sym is) ∙ e.2) (subst (λ s. Turns s new (Give e.1)) is e.3)

-- the view that callers have of it
seen : (c : goal.After-freed) → SeenAnswered c.args.self.now (nested c.freed.new.self c.self.inside.placed.items)
seen c = subst (λ v. SeenAnswered v (nested c.freed.new.self c.self.inside.placed.items)) c.self.view_is (past c).0.seen

pub invariant_of-self : goal.invariant_of-self
invariant_of-self c = (past (goal.at.invariant_of-self c).After-freed).0.kept

pub returns-clause-whole : goal.returns-clause-whole
returns-clause-whole c = (seen (goal.at.returns-clause-whole c).After-freed).whole

pub returns-clause-same : goal.returns-clause-same
returns-clause-same c = (seen (goal.at.returns-clause-same c).After-freed).same

pub returns-clause-holds : goal.returns-clause-holds
returns-clause-holds c = (seen (goal.at.returns-clause-holds c).After-freed).holds

pub returns-clause-locks : goal.returns-clause-locks
returns-clause-locks c = (
  c.freed.ensures.0,
  ap (λ v. v.running.pending) (sym c.self.view_is) ∙ ap (λ s. pending_of s.control) (sym c.deref_mut.ensures.value) ∙ ap pending_of c.freed.ensures.2,
  ap (λ v. v.running.locks) (sym c.self.view_is) ∙ (past (goal.at.returns-clause-locks c).After-freed).1,
)

pub returns-clause-others : goal.returns-clause-others
returns-clause-others c = (seen (goal.at.returns-clause-others c).After-freed).others

pub returns-clause-pending : goal.returns-clause-pending
returns-clause-pending c = (past (goal.at.returns-clause-pending c).After-freed).0.pending

pub returns-clause-work : goal.returns-clause-work
returns-clause-work c = (seen (goal.at.returns-clause-work c).After-freed).work

pub returns-clause-trace : goal.returns-clause-trace
returns-clause-trace c = (seen (goal.at.returns-clause-trace c).After-freed).trace
