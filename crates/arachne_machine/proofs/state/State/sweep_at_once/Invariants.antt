use Rattle.std.{proofs.Common.{◌≡◌, ◌≤◌, ◌-◌, ◌+◌, vec_len, vec_capacity}, specs.Borrow.Bor}
use Rattle.arachne_program.specs.declared.program.Expr.{Expr}
use Rattle.arachne_machine.specs.{Steps.{ComesToSweep, IsSame, top}, Strands.Strand}
use Rattle.arachne_machine.proofs.state.State.sweep_at_once.Given as goal

abbrev pub invariant-loop-next : goal.invariant-loop-next
invariant-loop-next l = record {
  same : IsSame l.initial.self l.self;
  comes : (body : Bor Expr) → body.now ≡ l.body → (before : Strand) → ComesToSweep before (top l.initial.self) l.initial.left l.initial.left l.reduction l.initial.next l.end body l.initial.so_far
      → ComesToSweep before (top l.initial.self) l.initial.left l.left l.reduction l.next l.end body l.so_far;
  fewer : l.left ≤ l.initial.left;
  environment : vec_len l.self.environment + 2 ≤ vec_capacity l.self.environment;
  frames : vec_len l.self.frames + 1 ≤ vec_capacity l.self.frames;
  few : vec_len l.self.frames ≡ vec_len l.initial.self.frames;
}

abbrev pub decreases-loop-next : goal.decreases-loop-next
decreases-loop-next l = l.end - l.next
