use Rattle.std.proofs.Common.{◌≡◌, ◌+◌, length, take, sum_by}
use Rattle.arachne_lang.proofs.checker.have_items_within.Given as goal

abbrev pub invariant-loop-array : goal.invariant-loop-array
invariant-loop-array l = sum_by (λ array. length array.items) (take l.array-index l.arrays) + l.left ≡ l.items
