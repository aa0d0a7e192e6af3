use Rattle.std.proofs.Common.{◌≡◌, ◌+◌, length, get_or, ap, ◌∙◌, arith}
use Rattle.arachne_program.specs.{Value.wrapped, Effects.tabulated}
use Rattle.arachne_machine.proofs.Tabulated.{tabulated-sum, length-tabulated}
use Rattle.arachne_machine.proofs.tables.add_each.Goals as goal

pub returns : goal.returns
returns c = λ n own others is_own is_others.
    let size : length c.args.sums.now ≡ n = ap length is_own ∙ length-tabulated n own in
    tabulated-sum n own others c.loop-i.sums (c.loop-i.auto.sums ∙ size)
    (λ k lt. c.loop-i.invariant.done k (omega (arith, size, c.loop-i-test.false))
    ∙ ap (λ xs. wrapped (get_or xs k 0 + get_or c.args.more.now k 0)) is_own
    ∙ ap (λ xs. wrapped (get_or (tabulated n own) k 0 + get_or xs k 0)) is_others)
