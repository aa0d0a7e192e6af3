use Rattle.std.proofs.Common.{ap, sym, ◌∙◌, subst}
use Rattle.arachne_program.specs.{Program.source_of, Checked.IsChecked}
use Rattle.arachne_machine.specs.{Faultless.PausesWithin, Nested.whole, Steps.top, Suspended.IsNext}
use Rattle.arachne_machine.proofs.{Advancing.trace_next, Nesting.{pauses_seen, program_seen}}
use Rattle.arachne_machine.proofs.thread.Thread.pending.Goals as goal

pub returns-clause-next : goal.returns-clause-next
returns-clause-next c = subst (λ v. IsNext v.running.pending v.running.trace) c.self.view_is (trace_next (top c.self.inside.state.value))

pub returns-clause-within : goal.returns-clause-within
returns-clause-within c = λ checked.
    let t = c.self.inside.state.value in
    let is = ap source_of (ap (λ v. (whole v).program) (sym c.self.view_is) ∙ program_seen t c.self.inside.placed.items) in
    subst (λ v. PausesWithin v.running) c.self.view_is (pauses_seen t c.self.invariant.sound (subst IsChecked is checked))
