use Rattle.std.proofs.Common.{rules, ◌≡◌, [], refl, sym, ◌∙◌, subst, append-nil}
use Rattle.arachne_program.specs.Value.{apply, operation_of}
use Rattle.arachne_machine.specs.{declared.state.State.State, Runs.{HandsResult, JoinsHere}}
use Rattle.arachne_machine.proofs.Levels.{resumes_half}
use Rattle.arachne_machine.proofs.state.State.join_here.Goals as goal

pub returns-in-Awaits-clause-ok : goal.returns-in-Awaits-clause-ok
returns-in-Awaits-clause-ok c = (
  c.in-Awaits.number,
  c.in-Awaits.during,
  record {
    program = c.bind_joined.ensures.program;
    own = c.bind_joined.ensures.own;
    sums = c.bind_joined.ensures.sums;
    lines = c.bind_joined.ensures.lines;
    parent = c.in-Some.parent;
    parents = search rules;
    level = c.bind_joined.ensures.level;
    environment = c.bind_joined.ensures.environment_is;
    frames_are = search rules;
    control_is = c.bind_joined.ensures.control_is;
  },
  c.in-Awaits.is,
  refl,
)

pub returns-in-AwaitsHalf-clause-ok : goal.returns-in-AwaitsHalf-clause-ok
returns-in-AwaitsHalf-clause-ok c =
    let mid : State = record c.args.self.now { frames = c.try_reserve.new.self; parents = c.pop.new.self; level = c.in-Some.parent.level } in
    let w = apply (operation_of c.in-AwaitsHalf.reduction) c.args.value c.in-AwaitsHalf.right in
    let is : c.apply.result ≡ w = search rules in
    let j : JoinsHere c.args.self.now mid [] [] c.args.self.now.control = record {
      program = refl;
      own = refl;
      sums = refl;
      lines = refl;
      parent = c.in-Some.parent;
      parents = search rules;
      level = refl;
      environment = sym (append-nil c.args.self.now.environment.items);
      frames_are = c.try_reserve.ensures.items ∙ sym (append-nil c.args.self.now.frames.items);
      control_is = refl;
    } in
    resumes_half c.args.self.now mid c.hand_result.new.self c.args.value c.args.left.now c.hand_result.new.left c.in-AwaitsHalf.number c.in-AwaitsHalf.right c.in-AwaitsHalf.reduction
    c.hand_result.result j c.in-AwaitsHalf.is refl (subst (λ x. HandsResult mid x c.args.left.now c.hand_result.result c.hand_result.new.left c.hand_result.new.self) is c.hand_result.ensures.hands)
