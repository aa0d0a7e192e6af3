-- The state advances. If no child was forked (`advances`), it goes on with one that was placed, or pauses.
use Rattle.std.proofs.Common.{◌≡◌, true, None, refl, sym, subst, arith}
use Rattle.arachne_machine.proofs.Handed.{advanced_kept, all_fit, went_back, went_all, went_forked, went_nothing, went_paused, went_up}
use Rattle.arachne_machine.proofs.{Lasting.on_err, state.State.advance_with.Goals.In_default}
use Rattle.arachne_machine.specs.{Kept.{AdvancesWith, TakesUp}, Runs.Advances, Steps.pending_of}
use Rattle.arachne_machine.proofs.state.State.advance_with.Given as given
use Rattle.arachne_machine.proofs.state.State.advance_with.Goals as goal

-- the state has advanced, and forked no child
advances : (g : given.Over) (c : goal.In_default g) →
    Advances (g.P.Placing.gives_all ≡ true) c.loop-left.left c.advance.new.left c.loop-left.self None (pending_of c.advance.new.self.control) c.advance.new.self
advances g c =
    let loop = c.loop-left in
    let new = c.advance.new.self in
    subst (λ f. Advances (g.P.Placing.gives_all ≡ true) loop.left c.advance.new.left loop.self f (pending_of new.control) new) c.in_default.is c.in_ok-forked.ensures.ok

pub loop-left-init : goal.loop-left-init
loop-left-init g c = went_nothing c.args.left.now c.args.self.now c.args.placed.now.items c.requires.kept c.requires.running

pub returns-in_err-forked-clause-err : goal.returns-in_err-forked-clause-err
returns-in_err-forked-clause-err g c =
    let loop = c.loop-left in
    on_err c.from_residual.result _
    (went_all c.args.left.now loop.left c.advance.new.left c.args.self.now loop.self c.advance.new.self c.args.placed.now.items loop.placed.items loop.invariant c.in_err-forked.ensures.err)

pub returns-in-Some-clause-ok : goal.returns-in-Some-clause-ok
returns-in-Some-clause-ok g c =
    let loop = c.loop-left in
    let new = c.advance.new.self in
    let r = subst (λ f. Advances (g.P.Placing.gives_all ≡ true) loop.left c.advance.new.left loop.self f (pending_of new.control) new) c.in-Some.is c.in_ok-forked.ensures.ok in
    went_forked c.args.left.now loop.left c.advance.new.left c.args.self.now loop.self new c.args.placed.now.items loop.placed.items c.in-Some.forked.0 c.in-Some.forked.1.value loop.invariant r.0 r.1 r.2

pub take_up-requires-clause-fit : goal.take_up-requires-clause-fit
take_up-requires-clause-fit g c =
    let loop = c.loop-left in
    let new = c.advance.new.self in
    let r = advances g (goal.at.take_up-requires-clause-fit g c).In_default in
    all_fit new loop.placed.items
    (advanced_kept c.args.left.now loop.left c.advance.new.left c.args.self.now loop.self new c.args.placed.now.items loop.placed.items (pending_of new.control) loop.invariant r)

pub returns-in-Err-clause-err : goal.returns-in-Err-clause-err
returns-in-Err-clause-err g c =
    let loop = c.loop-left in
    let new = c.advance.new.self in
    let r = advances g (goal.at.returns-in-Err-clause-err g c).In_default in
    let back = c.in-Err.ensures.err in
    let at = subst (λ o. Advances (g.P.Placing.gives_all ≡ true) loop.left c.advance.new.left loop.self None o new) back.joins r in
    went_back c.args.left.now loop.left c.advance.new.left c.args.self.now loop.self new c.take_up.new.self c.args.placed.now.items loop.placed.items c.take_up.new.placed.items loop.invariant
    at.0 at.1 at.2 back

pub overflow_add-left : goal.overflow_add-left
overflow_add-left g c =
    let loop = c.loop-left in
    let new = c.advance.new.self in
    let r = advances g (goal.at.overflow_add-left g c).In_default in
    let at = subst (λ o. Advances (g.P.Placing.gives_all ≡ true) loop.left c.advance.new.left loop.self None o new) c.in-Err.ensures.err.joins r in
    omega (arith, at.1, at.2.runs.fewer, loop.invariant.fewer)

pub returns-in-Ok-false-clause-ok : goal.returns-in-Ok-false-clause-ok
returns-in-Ok-false-clause-ok g c =
    let loop = c.loop-left in
    let new = c.advance.new.self in
    let ps = c.args.placed.now.items in
    let r = advances g (goal.at.returns-in-Ok-false-clause-ok g c).In_default in
    let t = subst (λ b. TakesUp b new loop.placed.items c.take_up.new.self c.take_up.new.placed.items) c.in-Ok-false.field-0-test c.in-Ok-false.ensures.ok in
    let it = went_paused _ c.args.left.now loop.left c.advance.new.left c.args.self.now loop.self new ps loop.placed.items (pending_of new.control) loop.invariant r refl t.2 in
    subst (λ l. AdvancesWith (g.P.Placing.gives_all ≡ true) c.args.left.now c.advance.new.left c.args.self.now ps None (pending_of c.take_up.new.self.control) c.take_up.new.self l) (sym t.1)
    (subst (λ s. AdvancesWith (g.P.Placing.gives_all ≡ true) c.args.left.now c.advance.new.left c.args.self.now ps None (pending_of s.control) s loop.placed.items) (sym t.0) it)

pub loop-left-preserved : goal.loop-left-preserved
loop-left-preserved g c =
    let loop = c.loop-left in
    let new = c.advance.new.self in
    let r = advances g (goal.at.loop-left-preserved g c).In_default in
    let t = subst (λ b. TakesUp b new loop.placed.items c.take_up.new.self c.take_up.new.placed.items) c.in-Ok-true.field-0-test c.in-Ok-true.ensures.ok in
    let at = subst (λ o. Advances (g.P.Placing.gives_all ≡ true) loop.left c.advance.new.left loop.self None o new) t.2 r in
    went_up c.args.left.now loop.left c.advance.new.left c.args.self.now loop.self new c.take_up.new.self c.args.placed.now.items loop.placed.items c.take_up.new.placed.items t.0 loop.invariant
    at.0 at.1 at.2 t.1 t.3 t.4 t.2
