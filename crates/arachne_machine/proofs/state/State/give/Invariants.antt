use Rattle.std.proofs.Common.{◌≡◌, true, ◌≤◌, ◌+◌, vec_len, vec_capacity}
use Rattle.arachne_machine.specs.Runs.{RunsOn, giving_in}
use Rattle.arachne_machine.proofs.state.State.give.Given as goal

abbrev pub invariant-loop-next : goal.invariant-loop-next
invariant-loop-next g l = record {
  makes : RunsOn (g.P.Placing.gives_all ≡ true) l.fn.left l.left 0 (giving_in l.fn.self l.fn.value) (giving_in l.self l.value);
  room : vec_len l.self.environment + 2 ≤ vec_capacity l.self.environment;
}

abbrev pub decreases-loop-next : goal.decreases-loop-next
decreases-loop-next g l = vec_len l.self.frames + vec_len l.self.parents
