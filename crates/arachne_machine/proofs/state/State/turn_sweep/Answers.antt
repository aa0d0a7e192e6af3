use Rattle.arachne_machine.specs.{Steps.top, Runs.seen_in}
use Rattle.arachne_machine.proofs.Going.{sweeps_leave, sweeps_top, leaves_on, leaves_same, leaves_seen, start_same, top_same}
use Rattle.arachne_machine.proofs.{Lasting.one_step_no_stop, Turning.{sweep_of_same, reaches_on}}
use Rattle.arachne_machine.proofs.state.State.turn_sweep.Goals as goal

pub returns-clause-reaches : goal.returns-clause-reaches
returns-clause-reaches c = λ before comes.
    let t = c.args.self.now in
    let mid = c.sweep_at_once-next.new.self in
    let p = c.begin_sweep.result in
    let new = c.begin_sweep.new.self in
    let after = seen_in p new in
    let same = c.sweep_at_once-next.ensures.same in
    let le = c.requires.start in
    reaches_on _ c.sweep_at_once-next.new.left _ before p new c.begin_sweep.ensures.step
    (c.sweep_at_once-next.ensures.turns before comes (top after)
    (sweep_of_same (top t) (top mid) (top after) _ _ _ _ _ (top_same t mid _ _ same le) (sweeps_top mid after _ _ _ _ _ c.begin_sweep.ensures.turns (start_same t mid _ _ same le))))

pub returns-clause-leaves : goal.returns-clause-leaves
returns-clause-leaves c =
    let t = c.args.self.now in
    let mid = c.sweep_at_once-next.new.self in
    let p = c.begin_sweep.result in
    let new = c.begin_sweep.new.self in
    let same = c.sweep_at_once-next.ensures.same in
    leaves_seen t new p
    (leaves_on t mid (seen_in p new) (leaves_same t mid _ _ same c.requires.start)
    (sweeps_leave mid (seen_in p new) _ _ _ _ _ c.begin_sweep.ensures.turns (start_same t mid _ _ same c.requires.start)))

pub returns-clause-stops : goal.returns-clause-stops
returns-clause-stops c = one_step_no_stop _ _ c.begin_sweep.result _ _ c.begin_sweep.ensures.step
