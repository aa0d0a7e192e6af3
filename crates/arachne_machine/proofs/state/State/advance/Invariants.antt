use Rattle.std.proofs.Common.{true, ◌≡◌, None}
use Rattle.arachne_machine.specs.{Runs.{RunsOn, current_in}, Steps.IsLeftOver}
use Rattle.arachne_machine.proofs.state.State.advance.Given as goal

abbrev pub invariant-loop-rest : goal.invariant-loop-rest
invariant-loop-rest g l = record {
  makes : RunsOn (g.P.Placing.gives_all ≡ true) l.initial.rest l.rest 0 l.initial.self (current_in l.begins l.self);
  left_over : l.begins ≡ None → IsLeftOver l.self.control;
}

abbrev pub decreases-loop-rest : goal.decreases-loop-rest
decreases-loop-rest g l = l.rest
