use Rattle.std.proofs.Common.{◌+◌, ◌<◌, ◌∷◌, List, length, ap, sym, ◌∙◌, arith}
use Rattle.arachne_machine.{specs.Lines.{Listed, lines_from}, proofs.Listing.from-line}
use Rattle.arachne_machine.proofs.thread_lines.first_line.Goals as goal

pub returns-then-place-len : goal.returns-then-place-len
returns-then-place-len c =
    let place = c.loop-list.place in
    let cut = c.in_ok-list.ensures.cases.0 in
    let few : place < length c.in_ok-list.list.now.lines = omega (arith, c.if-place-len.true, c.len.ensures) in
    sym c.loop-list.invariant ∙ ap (λ (l : List Listed). lines_from place l) cut
    ∙ from-line place c.in_ok-list.list.now c.in_ok-list.others.now c.at.result few (c.at.ensures c.at.result)
    ∙ ap (λ (l : List Listed). c.at.result ∷ lines_from (place + 1) l) (sym cut)
