use Rattle.std.proofs.Common.{◌∙◌, arith}
use Rattle.arachne_core.proofs.OccupancyWords.{packing, from_bool-bit}
use Rattle.arachne_core.proofs.occ_word.OccWord.new.Goals as goal

pub overflow_add-result-3 : goal.overflow_add-result-3
overflow_add-result-3 c =
    let p = packing c.args.mask c.from-count.result c.from-closed.result c.from-exclusive.result c.args.closed c.args.exclusive c.requires c.from-count.ensures (c.from-closed.ensures ∙ from_bool-bit c.args.closed) (c.from-exclusive.ensures ∙ from_bool-bit c.args.exclusive) in
    omega (arith, p.0)

pub invariant_of-result : goal.invariant_of-result
invariant_of-result c = (packing c.args.mask c.from-count.result c.from-closed.result c.from-exclusive.result c.args.closed c.args.exclusive c.requires c.from-count.ensures (c.from-closed.ensures ∙ from_bool-bit c.args.closed) (c.from-exclusive.ensures ∙ from_bool-bit c.args.exclusive)).1

pub returns : goal.returns
returns c = (packing c.args.mask c.from-count.result c.from-closed.result c.from-exclusive.result c.args.closed c.args.exclusive c.requires c.from-count.ensures (c.from-closed.ensures ∙ from_bool-bit c.args.closed) (c.from-exclusive.ensures ∙ from_bool-bit c.args.exclusive)).2
