use Rattle.std.proofs.Common.{suc, arith}
use Rattle.arachne_pool.proofs.links.Links.part_oldest.Goals as goal

-- those that are left are some of those that were there
pub invariant_of-self-2 : goal.invariant_of-self-2
invariant_of-self-2 g c = let all = rw c.in_ok-child.ensures.items at c.self.invariant in λ k d within. all (suc k) d (omega arith)
