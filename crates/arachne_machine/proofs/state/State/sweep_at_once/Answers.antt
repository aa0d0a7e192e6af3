use Rattle.std.proofs.Common.{ap, arith, sym, ◌∙◌}
use Rattle.arachne_program.specs.{Program.{source_of, tree_of}, Value.{apply, with_newest}}
use Rattle.arachne_machine.{specs.Steps.top, proofs.Turning.{sweep_goes_on, same_then, worth_same}}
use Rattle.arachne_machine.proofs.state.State.sweep_at_once.Goals as goal

pub loop-next-preserved : goal.loop-next-preserved
loop-next-preserved c =
    let t = c.args.self.now in
    let was = c.loop-next.invariant in
    let next = c.loop-next.next in
    let so_far = c.loop-next.so_far in
    let worth = c.in-Some.ensures.worth in
    record {
      same = same_then t c.loop-next.self c.sweep_value.new.self was.same c.in-Some.ensures.same;
      comes = λ body is before comes.
          sweep_goes_on before (top t) _ c.loop-next.left c.sweep_value.new.left c.args.reduction next c.args.end so_far c.in-Some.value c.apply-so_far.result body c.loop-next-test.true worth.0
          (worth_same _ _ _ _ _ _ _ _ _ (ap (λ p. source_of p.now) was.same.program) (ap tree_of (sym is)) (ap (λ e. with_newest e next) was.same.environment_is) worth.1)
          (c.apply-so_far.ensures ∙ ap (λ o. apply o so_far c.in-Some.value) c.operation.ensures)
          (was.comes body is before comes);
      fewer = omega (arith, was.fewer, worth.0);
      environment = c.in-Some.ensures.environment;
      frames = c.in-Some.ensures.frames;
      few = omega (arith, was.few, c.in-Some.ensures.few);
    }
