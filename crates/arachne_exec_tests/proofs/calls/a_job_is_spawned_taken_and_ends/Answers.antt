use Rattle.arachne_exec_tests.proofs.Newest.{newest}
use Rattle.arachne_exec_tests.proofs.calls.a_job_is_spawned_taken_and_ends.Goals as goal

pub finish-requires-clause-newest : goal.finish-requires-clause-newest
finish-requires-clause-newest g c = newest _ _ _ _ c.in-Run.ensures.hand.1
