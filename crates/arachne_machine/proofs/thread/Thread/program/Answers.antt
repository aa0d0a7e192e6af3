use Rattle.std.proofs.Common.{ap, sym, ◌∙◌}
use Rattle.arachne_machine.{specs.Nested.whole, proofs.Nesting.program_seen}
use Rattle.arachne_machine.proofs.thread.Thread.program.Goals as goal

pub returns : goal.returns
returns c =
    ap (λ s. s.program.now) c.deref.ensures ∙ sym (program_seen c.self.inside.state.value c.self.inside.placed.items) ∙ ap (λ v. (whole v).program) c.self.view_is
