use Rattle.std.proofs.Common.{List, ap, ◌∙◌}
use Rattle.arachne_machine.{specs.Lines.{Listed, lines_from}, proofs.Listing.lines_from-first}
use Rattle.arachne_machine.proofs.thread_lines.ThreadLines.iter.Goals as goal

pub returns : goal.returns
returns c = ap (λ (l : List Listed). lines_from 0 l) c.deref.ensures.value ∙ lines_from-first c.self.inside.lists.items ∙ c.self.view_is
