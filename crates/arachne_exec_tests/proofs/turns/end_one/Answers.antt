use Rattle.arachne_exec_tests.proofs.Newest.{newest}
use Rattle.arachne_exec_tests.proofs.turns.end_one.Goals as goal

pub finish-requires-clause-newest : goal.finish-requires-clause-newest
finish-requires-clause-newest c = newest _ _ _ _ c.in-Some.ensures.hand.1
