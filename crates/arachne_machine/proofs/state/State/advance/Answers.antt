-- Each iteration of the loop is a step (`comes`) after those before it (`so_far`).
use Rattle.std.proofs.Common.{true, ◌≡◌, ◌+◌, ◌-◌, None, subst, sym, arith}
use Rattle.arachne_machine.specs.{declared.state.Progress.Progress, Steps.top}
use Rattle.arachne_machine.specs.Runs.{Advances, Comes, RunsOn, beginning_in, current_in}
use Rattle.arachne_machine.proofs.{Going.{as_is, runs_next, runs_nothing}, state.State.advance.Goals.After-make}
use Rattle.arachne_machine.proofs.Lasting.{forks_next, pauses_next, refused_next, stopped_pending}
use Rattle.arachne_machine.specs.declared.state.Progress.TheVariants as way
use Rattle.arachne_machine.proofs.state.State.advance.Given as given
use Rattle.arachne_machine.proofs.state.State.advance.Goals as goal

-- the steps before this one, which is subtracted already
so_far : (g : given.Over) (c : goal.After-make g) →
    RunsOn (g.P.Placing.gives_all ≡ true) c.args.left.now (c.loop-rest.rest - 1 + 1) 0 c.args.self.now (current_in c.loop-rest.begins c.loop-rest.self)
so_far g c =
    let loop = c.loop-rest in
    let one : loop.rest ≡ loop.rest - 1 + 1 = omega (arith, c.loop-rest-test.true) in
    subst (λ n. RunsOn (g.P.Placing.gives_all ≡ true) c.args.left.now n 0 c.args.self.now (current_in loop.begins loop.self)) one loop.invariant.makes

-- the result of this step, by the arm that it was found in
comes : (g : given.Over) (c : goal.After-make g) (p way : Progress) → p ≡ way →
    Comes (g.P.Placing.gives_all ≡ true) (c.loop-rest.rest - 1) c.make.new.left (current_in c.loop-rest.begins c.loop-rest.self) p c.make.new.self →
    Comes (g.P.Placing.gives_all ≡ true) (c.loop-rest.rest - 1) c.make.new.left (current_in c.loop-rest.begins c.loop-rest.self) way c.make.new.self
comes g c p way is = subst (λ q. Comes (g.P.Placing.gives_all ≡ true) (c.loop-rest.rest - 1) c.make.new.left (current_in c.loop-rest.begins c.loop-rest.self) q c.make.new.self) is

pub loop-rest-init : goal.loop-rest-init
loop-rest-init g c =
    let t = c.args.self.now in
    record {
      makes = subst (λ s. RunsOn (g.P.Placing.gives_all ≡ true) c.args.left.now c.args.left.now 0 t s) (sym c.beginning-begins.ensures.current) (runs_nothing c.args.left.now t t c.requires.sound (as_is t) c.requires.running);
      left_over = λ none. c.beginning-begins.ensures.left_over none c.requires.running;
    }

pub returns-in-Err-clause-err : goal.returns-in-Err-clause-err
returns-in-Err-clause-err g c =
    refused_next c.args.left.now (c.loop-rest.rest - 1) c.make.new.left c.args.self.now _ c.make.new.self (so_far g (goal.at.returns-in-Err-clause-err g c).After-make) c.in-Err.ensures.err

pub loop-rest-preserved-in-Ok-Begin : goal.loop-rest-preserved-in-Ok-Begin
loop-rest-preserved-in-Ok-Begin g c =
    let arm = c.in-Ok-Begin in
    let at = (goal.at.loop-rest-preserved-in-Ok-Begin g c).After-make in
    record {
      makes = runs_next c.args.left.now (c.loop-rest.rest - 1) c.make.new.left c.args.self.now _ (beginning_in c.make.new.self arm.expr) (so_far g at)
          (comes g at _ (way.Begin arm.expr) arm.field-0-is arm.ensures.ok);
      left_over = λ none. cc;
    }

pub loop-rest-preserved : goal.loop-rest-preserved
loop-rest-preserved g c =
    let at = (goal.at.loop-rest-preserved g c).After-make in
    let r = comes g at _ way.Goes c.in-Ok-Goes.field-0-is c.in-Ok-Goes.ensures.ok in
    record {
      makes = runs_next c.args.left.now (c.loop-rest.rest - 1) c.make.new.left c.args.self.now _ c.make.new.self (so_far g at) r.0;
      left_over = λ none. r.1;
    }

pub returns-in-Ok-Stops-clause-ok : goal.returns-in-Ok-Stops-clause-ok
returns-in-Ok-Stops-clause-ok g c =
    let a = c.args.self.now in
    let had = c.args.left.now in
    let new = c.make.new.self in
    let left = c.make.new.left in
    let at = (goal.at.returns-in-Ok-Stops-clause-ok g c).After-make in
    let r = comes g at _ way.Stops c.in-Ok-Stops.field-0-is c.in-Ok-Stops.ensures.ok in
    subst (λ o. Advances (g.P.Placing.gives_all ≡ true) had left a None o new) (sym (stopped_pending 1 (top r.1.last) r.0 (top new) r.1.stops))
    (pauses_next had (c.loop-rest.rest - 1) left a _ r.0 new (so_far g at) r.1)

pub returns-in-Ok-Forks-clause-ok : goal.returns-in-Ok-Forks-clause-ok
returns-in-Ok-Forks-clause-ok g c =
    let arm = c.in-Ok-Forks in
    let at = (goal.at.returns-in-Ok-Forks-clause-ok g c).After-make in
    forks_next c.args.left.now (c.loop-rest.rest - 1) c.make.new.left c.args.self.now _ arm.class arm.child.value c.make.new.self (so_far g at)
    (comes g at _ (way.Forks arm.class arm.child) arm.field-0-is arm.ensures.ok)
