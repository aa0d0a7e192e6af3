use Rattle.std.proofs.Common.{◌≡◌, ◌+◌, length, take}
use Rattle.arachne_pool.specs.Jobs.{count_near}
use Rattle.arachne_pool.specs.Leftover.{count_placed}
use Rattle.arachne_pool.proofs.closing.Left.taken_from.Given as goal

-- so many less those that were looked at
abbrev pub invariant-loop-entry : goal.invariant-loop-entry
invariant-loop-entry g l = l.rest + count_placed (take l.entry-index l.placed) ≡ l.count

abbrev pub invariant-loop-job : goal.invariant-loop-job
invariant-loop-job g l = l.rest + count_placed l.self.placed.items + count_near (take (length l.yielded) l.self.near.items) ≡ l.count
