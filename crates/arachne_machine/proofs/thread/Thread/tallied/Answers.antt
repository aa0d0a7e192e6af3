-- A tally is answered. The amount is added to the thread's sums, the body begins, and all else that callers see is
-- unchanged.
use Rattle.std.proofs.Common.{ap, sym, ◌∙◌, subst}
use Rattle.arachne_program.specs.{Program.source_of, Effects.tallied}
use Rattle.arachne_machine.specs.declared.pause.Pending.TheVariants as pause
use Rattle.arachne_machine.specs.{Kept.nested, Nested.{Nested, SameWhole, pending_in, work_in}, Runs.CountsTally}
use Rattle.arachne_machine.{specs.Steps.{Counts, pending_of, suspended, top}, proofs.Tabulated.{kept_is, raised_is}}
use Rattle.arachne_machine.specs.Suspended.{IsAnswered, IsTally, SameThread, raised}
use Rattle.arachne_machine.proofs.{Counting.{Counted, tally_past}, thread.Thread.tallied.Goals.After-tallied}
use Rattle.arachne_machine.proofs.thread.Thread.tallied.Goals as goal

pub tallied-requires : goal.tallied-requires
tallied-requires c = subst (λ s. IsTally (pending_of s.control)) (sym c.deref_mut.ensures.value) (subst (λ v. IsTally (pending_in v)) (sym c.self.view_is) c.requires)

answer : (c : goal.After-tallied) →
    Counted c.self.inside.state.value c.tallied.new.self c.self.inside.placed.items
    × Counts (pause.Tallies c.tallied.ensures.0 c.tallied.ensures.1) (tallied c.tallied.ensures.0 c.tallied.ensures.1) (top c.self.inside.state.value) (top c.tallied.new.self)
answer c =
    let t = c.self.inside.state.value in
    let new = c.tallied.new.self in
    let is = c.deref_mut.ensures.value in
    let e = c.tallied.ensures in
    tally_past t e.3 new c.self.inside.placed.items e.0 e.1 e.2 c.self.invariant (ap (λ s. s.control) (sym is) ∙ e.4) (subst (λ s. CountsTally s e.3 e.0 e.1) is e.5) e.6

pub invariant_of-self : goal.invariant_of-self
invariant_of-self c =
    let past = answer (goal.at.invariant_of-self c).After-tallied in
    past.0.kept

pub returns-clause-whole : goal.returns-clause-whole
returns-clause-whole c =
    let new = c.tallied.new.self in
    let past = answer (goal.at.returns-clause-whole c).After-tallied in
    subst (λ v. SameWhole v (nested new c.self.inside.placed.items)) c.self.view_is past.0.whole

pub returns-clause-same : goal.returns-clause-same
returns-clause-same c =
    let new = c.tallied.new.self in
    let past = answer (goal.at.returns-clause-same c).After-tallied in
    subst (λ v. SameThread v.running (suspended (top new))) c.self.view_is past.0.same

pub returns-clause-locks : goal.returns-clause-locks
returns-clause-locks c =
    let past = answer (goal.at.returns-clause-locks c).After-tallied in
    past.0.locks ∙ ap (λ v. v.running.locks) c.self.view_is

pub returns-clause-others : goal.returns-clause-others
returns-clause-others c =
    let new = c.tallied.new.self in
    let past = answer (goal.at.returns-clause-others c).After-tallied in
    let with_new : Nested → Nested = λ v. record v { running = suspended (top new); sums = new.sums.items } in
    ap (λ l. record (nested new c.self.inside.placed.items) { parents = l }) past.0.parents ∙ ap with_new c.self.view_is

pub returns-clause-pending : goal.returns-clause-pending
returns-clause-pending c =
    let past = answer (goal.at.returns-clause-pending c).After-tallied in
    past.0.pending

pub returns-clause-work : goal.returns-clause-work
returns-clause-work c =
    let past = answer (goal.at.returns-clause-work c).After-tallied in
    past.0.work ∙ ap work_in c.self.view_is

pub returns-clause-trace : goal.returns-clause-trace
returns-clause-trace c =
    let new = c.tallied.new.self in
    let past = answer (goal.at.returns-clause-trace c).After-tallied in
    subst (λ v. IsAnswered v.running (suspended (top new))) c.self.view_is past.0.trace

pub returns-clause-holds : goal.returns-clause-holds
returns-clause-holds c =
    let t = c.self.inside.state.value in
    let past = answer (goal.at.returns-clause-holds c).After-tallied in
    let s = c.self.invariant.sound in
    let n = (source_of t.program.now).locks in
    let was = s.sound.2.holds in
    kept_is n s.sound.0.holds _ _ was (past.1.holds n s.sound.0.holds was) ∙ ap (λ v. v.running.holds) c.self.view_is

pub returns-clause-sums : goal.returns-clause-sums
returns-clause-sums c =
    let t = c.self.inside.state.value in
    let is = c.deref_mut.ensures.value in
    let e = c.tallied.ensures in
    let s = c.self.invariant.sound in
    let n = (source_of t.program.now).ledgers in
    let h = subst (λ s. CountsTally s e.3 e.0 e.1) is e.5 in (
      e.0,
      e.1,
      ap pending_in (sym c.self.view_is) ∙ ap (λ s. pending_of s.control) (sym is) ∙ ap pending_of e.4,
      raised_is n s.sums_of e.0 e.1 _ _ s.sums (ap (λ s. s.sums.items) e.6 ∙ h.sums n s.sums_of s.sums) ∙ ap (λ v. raised v.sums e.0 e.1) c.self.view_is,
    )
