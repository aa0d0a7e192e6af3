use Rattle.std.proofs.Common.{◌≡◌}
use Rattle.arachne_workers.proofs.dispatch.give_all_back.Given as goal

abbrev pub invariant-loop : goal.invariant-loop
invariant-loop g l = l.dispatch ≡ l.initial.dispatch
