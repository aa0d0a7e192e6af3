use Rattle.example_exec.proofs.Newest.{newest}
use Rattle.example_exec.proofs.relay.Relay.run.Goals as goal

pub finish-requires-clause-newest : goal.finish-requires-clause-newest
finish-requires-clause-newest g c = newest _ _ _ c.requires.own.1

pub rest_blocked-requires-clause-newest : goal.rest_blocked-requires-clause-newest
rest_blocked-requires-clause-newest g c = newest _ _ _ c.requires.own.1
