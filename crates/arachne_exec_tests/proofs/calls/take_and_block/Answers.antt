use Rattle.arachne_exec_tests.proofs.Newest.{newest}
use Rattle.arachne_exec_tests.proofs.calls.take_and_block.Goals as goal

pub rest_blocked-requires-clause-newest : goal.rest_blocked-requires-clause-newest
rest_blocked-requires-clause-newest c = newest _ _ _ _ c.in_ok-job.ensures.hand.1
