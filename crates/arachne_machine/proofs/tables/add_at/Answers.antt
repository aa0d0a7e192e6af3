use Rattle.std.proofs.Common.{◌≡◌, length, ap, ◌∙◌, arith}
use Rattle.arachne_machine.proofs.Tabulated.{tabulated-added, tabulated-beyond, length-tabulated}
use Rattle.arachne_machine.proofs.tables.add_at.Goals as goal

pub returns-then-place-sums : goal.returns-then-place-sums
returns-then-place-sums c = λ n own e. tabulated-added n own c.args.place c.args.amount c.args.sums.now e c.if-place-sums.true

pub returns-else-place-sums : goal.returns-else-place-sums
returns-else-place-sums c = λ n own e.
    let size : length c.args.sums.now ≡ n = ap length e ∙ length-tabulated n own in
    e ∙ tabulated-beyond n own c.args.place c.args.amount (omega (arith, size, c.if-place-sums.false))
