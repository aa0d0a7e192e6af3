-- A request for a lock is answered. The thread has held the lock once more, the body begins, and all else that callers
-- see is unchanged.
use Rattle.std.proofs.Common.{ap, sym, ◌∙◌, subst}
use Rattle.arachne_program.specs.{Program.source_of, Effects.held}
use Rattle.arachne_machine.specs.declared.pause.Pending.TheVariants as pause
use Rattle.arachne_machine.specs.{Kept.nested, Nested.{Nested, SameWhole, pending_in, work_in}, Runs.CountsHold}
use Rattle.arachne_machine.{specs.Steps.{Counts, HasLine, pending_of, suspended, top}, proofs.Tabulated.raised_is}
use Rattle.arachne_machine.{specs.Suspended.{IsAnswered, IsAsk, SameThread, raised}, proofs.Going.line_in}
use Rattle.arachne_machine.proofs.{Counting.{Counted, hold_past}, thread.Thread.granted.Goals.After-granted}
use Rattle.arachne_machine.proofs.thread.Thread.granted.Goals as goal

pub granted-requires-clause-asks : goal.granted-requires-clause-asks
granted-requires-clause-asks c = subst (λ s. IsAsk (pending_of s.control)) (sym c.deref_mut.ensures.value) (subst (λ v. IsAsk (pending_in v)) (sym c.self.view_is) c.requires)

pub granted-requires-clause-line : goal.granted-requires-clause-line
granted-requires-clause-line c = subst HasLine (sym c.deref_mut.ensures.value) (line_in c.self.inside.state.value c.self.invariant.sound)

answer : (c : goal.After-granted) →
    Counted c.self.inside.state.value c.granted.new.self c.self.inside.placed.items
    × Counts (pause.Asks c.granted.ensures.0) (held c.granted.ensures.0) (top c.self.inside.state.value) (top c.granted.new.self)
answer c =
    let t = c.self.inside.state.value in
    let new = c.granted.new.self in
    let is = c.deref_mut.ensures.value in
    let e = c.granted.ensures in
    hold_past t e.2 new c.self.inside.placed.items e.0 e.1 c.self.invariant (ap (λ s. s.control) (sym is) ∙ e.3) (subst (λ s. CountsHold s e.2 e.0) is e.4) e.5

pub invariant_of-self : goal.invariant_of-self
invariant_of-self c =
    let past = answer (goal.at.invariant_of-self c).After-granted in
    past.0.kept

pub returns-clause-whole : goal.returns-clause-whole
returns-clause-whole c =
    let new = c.granted.new.self in
    let past = answer (goal.at.returns-clause-whole c).After-granted in
    subst (λ v. SameWhole v (nested new c.self.inside.placed.items)) c.self.view_is past.0.whole

pub returns-clause-same : goal.returns-clause-same
returns-clause-same c =
    let new = c.granted.new.self in
    let past = answer (goal.at.returns-clause-same c).After-granted in
    subst (λ v. SameThread v.running (suspended (top new))) c.self.view_is past.0.same

pub returns-clause-locks : goal.returns-clause-locks
returns-clause-locks c =
    let past = answer (goal.at.returns-clause-locks c).After-granted in
    past.0.locks ∙ ap (λ v. v.running.locks) c.self.view_is

pub returns-clause-others : goal.returns-clause-others
returns-clause-others c =
    let t = c.self.inside.state.value in
    let new = c.granted.new.self in
    let is = c.deref_mut.ensures.value in
    let e = c.granted.ensures in
    let past = answer (goal.at.returns-clause-others c).After-granted in
    let with_new : Nested → Nested = λ v. record v { running = suspended (top new) } in
    ap (λ l. record (nested new c.self.inside.placed.items) { parents = l }) past.0.parents
    ∙ ap (λ s. record (nested t c.self.inside.placed.items) { running = suspended (top new); sums = s }) (ap (λ s. s.sums.items) e.5 ∙ e.4.sums ∙ ap (λ s. s.sums.items) is) ∙ ap with_new c.self.view_is

pub returns-clause-pending : goal.returns-clause-pending
returns-clause-pending c =
    let past = answer (goal.at.returns-clause-pending c).After-granted in
    past.0.pending

pub returns-clause-work : goal.returns-clause-work
returns-clause-work c =
    let past = answer (goal.at.returns-clause-work c).After-granted in
    past.0.work ∙ ap work_in c.self.view_is

pub returns-clause-trace : goal.returns-clause-trace
returns-clause-trace c =
    let new = c.granted.new.self in
    let past = answer (goal.at.returns-clause-trace c).After-granted in
    subst (λ v. IsAnswered v.running (suspended (top new))) c.self.view_is past.0.trace

pub returns-clause-holds : goal.returns-clause-holds
returns-clause-holds c =
    let t = c.self.inside.state.value in
    let is = c.deref_mut.ensures.value in
    let e = c.granted.ensures in
    let past = answer (goal.at.returns-clause-holds c).After-granted in
    let s = c.self.invariant.sound in
    let n = (source_of t.program.now).locks in
    let was = s.sound.2.holds in (
      e.0,
      ap pending_in (sym c.self.view_is) ∙ ap (λ s. pending_of s.control) (sym is) ∙ ap pending_of e.3,
      raised_is n s.sound.0.holds e.0 1 _ _ was (past.1.holds n s.sound.0.holds was) ∙ ap (λ v. raised v.running.holds e.0 1) c.self.view_is,
    )
