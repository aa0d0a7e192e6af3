use Rattle.std.proofs.Common.{ap, sym, ◌∙◌}
use Rattle.arachne_machine.{specs.Nested.whole, proofs.Nesting.name_seen}
use Rattle.arachne_machine.proofs.thread.Thread.name.Goals as goal

pub returns : goal.returns
returns c =
    ap (λ s. s.own.name) c.deref.ensures ∙ sym (name_seen c.self.inside.state.value c.self.inside.placed.items) ∙ ap (λ v. (whole v).name) c.self.view_is
