use Rattle.arachne_exec_tests.proofs.Newest.{newest}
use Rattle.arachne_exec_tests.proofs.turns.run_again.Goals as goal

pub rest_ready-requires-clause-newest : goal.rest_ready-requires-clause-newest
rest_ready-requires-clause-newest c = newest _ _ _ _ c.in-Run.ensures.hand.1
