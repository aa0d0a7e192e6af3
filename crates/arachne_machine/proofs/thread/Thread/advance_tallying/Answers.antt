use Rattle.std.proofs.Common.{◌≡◌, None, refl, ap, sym, ◌∙◌, subst, arith}
use Rattle.arachne_machine.specs.declared.pause.Pause.TheVariants as pauses
use Rattle.arachne_machine.specs.{Advance.{Moves, pause_seen}, Nested.pending_in, Tallying.{AdvancesOver, IsAdvance}}
use Rattle.arachne_machine.proofs.{Lasting.on_err, Gone.{Gone, gone_all, gone_on, gone_paused, gone_refused}}
use Rattle.arachne_machine.proofs.thread.Thread.advance_tallying.Goals as goal

pub returns-in_err-forked-clause-err_over : goal.returns-in_err-forked-clause-err_over
returns-in_err-forked-clause-err_over g c =
    on_err c.from_residual.result _ (gone_refused _ _ _ _ _ _ _ _ c.loop-left.invariant c.in_err-forked.ensures.err).over

pub returns-in-Some-clause-over : goal.returns-in-Some-clause-over
returns-in-Some-clause-over g c =
    let advanced = rw c.in-Some.is at c.in_ok-forked.ensures.advance in
    (gone_paused _ _ _ _ _ _ _ _ _ c.loop-left.invariant (subst (λ p. IsAdvance c.loop-left.left c.stop.new.left c.loop-left.self p c.stop.new.self) (sym c.pause_of.ensures) advanced)).over

pub returns-in-Some-clause-ok : goal.returns-in-Some-clause-ok
returns-in-Some-clause-ok g c =
    let advanced = rw c.in-Some.is at c.in_ok-forked.ensures.advance in
    (gone_paused _ _ _ _ _ _ _ _ _ c.loop-left.invariant (subst (λ p. IsAdvance c.loop-left.left c.stop.new.left c.loop-left.self p c.stop.new.self) (sym c.pause_of.ensures) advanced)).moves

pub returns-then-not-tally-clause-over : goal.returns-then-not-tally-clause-over
returns-then-not-tally-clause-over g c =
    let advanced = rw c.in_default.is at c.in_ok-forked.ensures.advance in
    let keeps = c.if-not-tally.ensures.none refl in
    let is : c.pause_of-then-not-tally.result ≡ pause_seen None (pending_in c.stop.new.self) = c.pause_of-then-not-tally.ensures ∙ ap (pause_seen None) (c.pending.ensures.pending ∙ ap pending_in keeps.0) in
    let far = gone_paused _ _ _ _ _ _ _ _ _ c.loop-left.invariant (subst (λ p. IsAdvance c.loop-left.left c.stop.new.left c.loop-left.self p c.stop.new.self) (sym is) advanced) in
    let due = g.D.Tallying.due_to c.args.due.now in
    subst (λ s. AdvancesOver c.args.left.now c.stop.new.left c.args.self.now c.pause_of-then-not-tally.result s due (g.D.Tallying.due_to c.tally.new.due)) (sym keeps.0)
    (subst (λ d. AdvancesOver c.args.left.now c.stop.new.left c.args.self.now c.pause_of-then-not-tally.result c.stop.new.self due (g.D.Tallying.due_to d)) (sym keeps.1) far.over)

pub returns-then-not-tally-clause-ok : goal.returns-then-not-tally-clause-ok
returns-then-not-tally-clause-ok g c =
    let advanced = rw c.in_default.is at c.in_ok-forked.ensures.advance in
    let keeps = c.if-not-tally.ensures.none refl in
    let is : c.pause_of-then-not-tally.result ≡ pause_seen None (pending_in c.stop.new.self) = c.pause_of-then-not-tally.ensures ∙ ap (pause_seen None) (c.pending.ensures.pending ∙ ap pending_in keeps.0) in
    let far = gone_paused _ _ _ _ _ _ _ _ _ c.loop-left.invariant (subst (λ p. IsAdvance c.loop-left.left c.stop.new.left c.loop-left.self p c.stop.new.self) (sym is) advanced) in
    subst (λ s. Moves c.args.left.now c.args.self.now c.pause_of-then-not-tally.result s) (sym keeps.0) far.moves

pub loop-left-preserved : goal.loop-left-preserved
loop-left-preserved g c =
    let advanced = rw c.in_default.is at c.in_ok-forked.ensures.advance in
    let made = c.if-not-tally.ensures.made refl in
    gone_on _ _ _ _ _ _ _ _ _ _ made.0 made.1 c.loop-left.invariant advanced made.2 made.3

pub returns-clause-over : goal.returns-clause-over
returns-clause-over g c =
    let loop = c.loop-left in
    let had = c.args.left.now in
    let old = c.args.self.now in
    let due = g.D.Tallying.due_to c.args.due.now in
    let now_due = g.D.Tallying.due_to loop.due in
    let none : loop.left ≡ 0 = omega (arith, c.loop-left-test.false) in
    subst (λ n. AdvancesOver had n old pauses.Budget loop.self due now_due) (sym none) (gone_all had old loop.self due now_due (subst (λ n. Gone had n old loop.self due now_due) none loop.invariant)).over
