use Rattle.std.proofs.Common.{◌+◌, ◌^◌, sym, subst}
use Rattle.std.specs.Int.RustNames.{bit_and, bit_or}
use Rattle.arachne_exec.proofs.Lowest.{Picked, first-picked, next-picked}
use Rattle.arachne_exec.proofs.taking.lowest.Goals as goal

pub loop-count-init : goal.loop-count-init
loop-count-init c =
    let first = c.lowest_index-first in
    subst (λ pick. Picked c.args.word c.args.most pick (bit_and c.args.word c.all_but.result) 1) (sym c.bit-pick.ensures)
    (subst (λ mask. Picked c.args.word c.args.most (2 ^ first.result) (bit_and c.args.word mask) 1) (sym c.all_but.ensures)
    (first-picked c.args.word first.result first.ensures.low first.ensures.there first.ensures.lowest c.args.most))

pub loop-count-preserved : goal.loop-count-preserved
loop-count-preserved c =
    let index = c.lowest_index-index in let l = c.loop-count in
    subst (λ pick. Picked c.args.word c.args.most (bit_or l.pick pick) (bit_and l.left c.all_but-left.result) (l.count + 1)) (sym c.bit-pick-in-loop-count.ensures)
    (subst (λ mask. Picked c.args.word c.args.most (bit_or l.pick (2 ^ index.result)) (bit_and l.left mask) (l.count + 1)) (sym c.all_but-left.ensures)
    (next-picked c.args.word c.args.most l.pick l.left l.count index.result index.ensures.low index.ensures.there index.ensures.lowest l.invariant c.loop-count-test.true))
