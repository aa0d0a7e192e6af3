use Rattle.arachne_exec_tests.proofs.Newest.{newest}
use Rattle.arachne_exec_tests.proofs.calls.a_job_is_spawned_into_the_hand.Goals as goal

pub rest_ready-requires-clause-newest : goal.rest_ready-requires-clause-newest
rest_ready-requires-clause-newest g c = newest _ _ _ _ c.in-Held.ensures.hand.1
