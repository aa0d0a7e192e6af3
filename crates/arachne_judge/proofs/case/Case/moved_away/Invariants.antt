use Rattle.std.proofs.Common.{◌≡◌}
use Rattle.arachne_judge.proofs.case.Case.moved_away.Given as goal

abbrev pub invariant-loop-receiver : goal.invariant-loop-receiver
invariant-loop-receiver l = l.self.broken ≡ l.initial.self.broken
