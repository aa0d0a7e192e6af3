use Rattle.std.proofs.Common.{rules, ◌+◌, ◌≤◌, vec_len, vec_capacity, refl, sym, subst, ◌∙◌, arith}
use Rattle.arachne_machine.specs.{declared.state.State.State, Steps.IsSame, Runs.{Comes, RunsOn, giving_in}}
use Rattle.arachne_machine.proofs.Going.{comes_more, runs_more, runs_nothing}
use Rattle.arachne_machine.proofs.Lasting.{nearer_value, on_err, without_value}
use Rattle.arachne_machine.proofs.state.State.give.Goals as goal

pub returns-then-is_err-clause-err : goal.returns-then-is_err-clause-err
returns-then-is_err-clause-err g c =
    let t = c.args.self.now in
    let turns = c.refused.ensures.turns in
    let same : IsSame (giving_in t c.args.value) c.refused.new.self = assumption (turns.environment_is ∙ c.try_reserve.ensures.items) in
    on_err c.refused.result _ (runs_nothing _ (giving_in t c.args.value) c.refused.new.self c.requires.sound same refl)

pub loop-next-init : goal.loop-next-init
loop-next-init g c =
    let t = c.args.self.now in
    let mid : State = record t { environment = c.try_reserve.new.self } in
    let room : vec_len c.try_reserve.new.self + 2 ≤ vec_capacity c.try_reserve.new.self = search rules in
    record {
      makes = runs_nothing _ (giving_in t c.args.value) (giving_in mid c.args.value) c.requires.sound
          (record { program = refl; own = refl; lines = refl; sums = refl; parents = refl; level = refl; environment_is = c.try_reserve.ensures.items; frames_are = refl; control_is = refl }) refl;
      room = room;
    }

pub hand_newest-requires-clause-sound : goal.hand_newest-requires-clause-sound
hand_newest-requires-clause-sound g c = c.loop-next.invariant.makes.runs.sound

pub hand_newest-requires-clause-environment : goal.hand_newest-requires-clause-environment
hand_newest-requires-clause-environment g c = c.loop-next.invariant.room

pub returns-in_err-progress-clause-fewer : goal.returns-in_err-progress-clause-fewer
returns-in_err-progress-clause-fewer g c = omega (arith, c.loop-next.invariant.makes.fewer, c.hand_newest.ensures.fewer)

pub returns-in_err-progress-clause-err : goal.returns-in_err-progress-clause-err
returns-in_err-progress-clause-err g c =
    let from = giving_in c.args.self.now c.args.value in
    let at = giving_in c.loop-next.self c.loop-next.value in
    let m = c.loop-next.invariant.makes in
    let new = c.hand_newest.new.self in
    let on = runs_more _ _ _ 0 from at new m (runs_nothing c.loop-next.left at new m.runs.sound c.in_err-progress.ensures.err refl) in
    on_err c.from_residual.result _ (subst (λ n. RunsOn _ c.args.left.now n 0 from new) (sym c.in_err-progress.ensures.uncharged) on)

pub loop-next-smaller : goal.loop-next-smaller
loop-next-smaller g c = nearer_value c.in_ok-progress.progress c.in-Value.next _ c.in-Value.is c.in_ok-progress.ensures.nearer

pub loop-next-preserved : goal.loop-next-preserved
loop-next-preserved g c =
    let from = giving_in c.args.self.now c.args.value in
    let at = giving_in c.loop-next.self c.loop-next.value in
    let new = c.hand_newest.new.self in
    record {
      makes = runs_more _ _ _ 0 from at _ c.loop-next.invariant.makes (subst (λ p. Comes _ c.loop-next.left c.hand_newest.new.left at p new) c.in-Value.is c.in_ok-progress.ensures.ok);
      room = nearer_value c.in_ok-progress.progress c.in-Value.next _ c.in-Value.is c.in_ok-progress.ensures.room;
    }

pub returns-in_default : goal.returns-in_default
returns-in_default g c =
    let from = giving_in c.args.self.now c.args.value in
    let at = giving_in c.loop-next.self c.loop-next.value in
    let m = c.loop-next.invariant.makes in
    record {
      ok = comes_more _ _ _ from at c.in_ok-progress.progress c.hand_newest.new.self m c.in_ok-progress.ensures.ok;
      handed = without_value c.in_ok-progress.progress c.in_default.not-Value;
      fewer = omega (arith, m.fewer, c.in_ok-progress.ensures.fewer);
      err = tt;
    }
