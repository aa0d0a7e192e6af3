use Rattle.std.proofs.Common.{length}
use Rattle.arachne_pool_tests.proofs.rounds.count_in.Given as goal

-- with each job that comes out fewer are left
abbrev pub decreases-loop-count : goal.decreases-loop-count
decreases-loop-count l = length l.jobs
