use Rattle.arachne_exec_tests.proofs.Newest.{newest}
use Rattle.arachne_exec_tests.proofs.calls.with_held_job.Goals as goal

pub returns-clause-newest : goal.returns-clause-newest
returns-clause-newest c =
    let hand = rw c.in_ok-job.ensures.ok_part at c.take.ensures.hand in
    newest _ _ _ _ hand.1
