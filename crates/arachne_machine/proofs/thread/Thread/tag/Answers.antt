use Rattle.std.proofs.Common.{ap, sym, ◌∙◌}
use Rattle.arachne_machine.{specs.Nested.whole, proofs.Nesting.label_seen}
use Rattle.arachne_machine.proofs.thread.Thread.tag.Goals as goal

pub returns : goal.returns
returns c =
    ap (λ s. s.own.label.tag) c.deref.ensures ∙ ap (λ l. l.tag) (sym (label_seen c.self.inside.state.value c.self.inside.placed.items))
    ∙ ap (λ v. (whole v).label.tag) c.self.view_is
