use Rattle.std.proofs.Common.{◌≡◌}
use Rattle.arachne_run.proofs.access.Access.free.Given as goal

abbrev pub invariant-loop : goal.invariant-loop
invariant-loop g l = (l.self ≡ l.initial.self) × (l.thread ≡ l.initial.thread)
