use Rattle.std.proofs.Common.{length, ap, arith}
use Rattle.arachne_machine.{specs.Lines.Listed, proofs.Holding.length-with_holds}
use Rattle.arachne_machine.proofs.line_list.LineList.len.Goals as goal

pub returns : goal.returns
returns c =
    let fields = c.self.inside in
    omega (arith, c.len.ensures, fields.marks.ok.0, length-with_holds fields.quarter fields.locks fields.marks.items fields.holds.items, ap (λ (v : Listed). length v.lines) c.self.view_is)
