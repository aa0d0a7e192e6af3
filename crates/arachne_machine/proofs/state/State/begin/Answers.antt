use Rattle.std.proofs.Common.{rules, ◌∷◌, [], refl, arith, sym, ap, ◌∙◌, slice_index}
use Rattle.arachne_program.specs.Tree.{Number, Variable, Length, Item, Choose, Bind, Tally, Hold, Fold, Sweep}
use Rattle.arachne_program.specs.Program.{source_of, tree_of}
use Rattle.arachne_machine.specs.declared.frame.Frame.TheVariants.{Index, Branch, Extend, Amount, Release, FoldTo, SweepTo}
use Rattle.arachne_machine.specs.{declared.frame.Control.TheVariants.{Give, Asks}, Steps.{beginning, giving, top}}
use Rattle.arachne_machine.{specs.Runs.{Comes, beginning_in}, proofs.Outlooks.{as_beginning, given}}
use Rattle.arachne_machine.proofs.Openings.{begins_by, goes_to_value, open_number, open_variable, open_length, open_item, open_choice, open_binding, open_tally, open_hold, open_fold, open_sweep}
use Rattle.arachne_machine.proofs.{Handings.once, Splitting.{goes_to_fork, places_fork}}
use Rattle.arachne_machine.proofs.{Strides.{ok_both, reaches_value}, Levels.{changes_leave, top_becomes}}
use Rattle.arachne_machine.proofs.Going.{comes_fork, comes_of, comes_stop, enters_begun, forks_begun, forks_part, leaves_begun, line_in, not_ended, number_fits, runs_place, spawns_begun, start_in}
use Rattle.arachne_machine.proofs.Lasting.{enters, leaves_from, no_stop, ok_forked, ok_known}
use Rattle.arachne_machine.specs.declared.pause.Pending.TheVariants as pause
use Rattle.arachne_machine.specs.declared.state.Progress.TheVariants as way
use Rattle.arachne_machine.proofs.state.State.begin.Goals as goal

pub operate-requires : goal.operate-requires
operate-requires g c = record { start = start_in (beginning_in c.args.self.now c.args.expr) c.requires.sound }

pub fork_here-requires : goal.fork_here-requires
fork_here-requires g c = record { number = number_fits (beginning_in c.args.self.now c.args.expr) c.requires.sound refl (omega (arith, c.args.self.now.frames.ok.0, c.args.self.now.frames.ok.1, c.args.self.now.frames.small)) }

pub fork-requires-clause-number : goal.fork-requires-clause-number
fork-requires-clause-number g c = number_fits (beginning_in c.args.self.now c.args.expr) c.requires.sound refl (omega (arith, c.args.self.now.frames.ok.0, c.args.self.now.frames.ok.1, c.args.self.now.frames.small))

pub fork-requires-clause-line : goal.fork-requires-clause-line
fork-requires-clause-line g c = line_in (beginning_in c.args.self.now c.args.expr) c.requires.sound

pub returns-in-Num-clause-ok : goal.returns-in-Num-clause-ok
returns-in-Num-clause-ok g c =
    let t = c.args.self.now in
    let e = c.args.expr in
    let n = c.in-Num.number in
    let s = c.requires.sound in
    comes_of _ _ _ (beginning_in t e) (way.Value n) t s refl (leaves_begun t e s) tt
    (reaches_value _ n (beginning (top t) e) (top t)
    (goes_to_value 0 (beginning (top t) e) (giving (top t) n) e (Number n) n refl (ap tree_of c.in-Num.is) (as_beginning (top t) (giving (top t) n) e _ _ _ (given (top t) _ _ refl))
    (open_number (source_of t.program.now) (top t).own.name t.environment.items n)))

pub returns-in-Var-clause-ok : goal.returns-in-Var-clause-ok
returns-in-Var-clause-ok g c =
    let t = c.args.self.now in
    let e = c.args.expr in
    let v = c.variable_in.result in
    let s = c.requires.sound in
    comes_of _ _ _ (beginning_in t e) (way.Value v) t s refl (leaves_begun t e s) tt
    (reaches_value _ v (beginning (top t) e) (top t)
    (goes_to_value 0 (beginning (top t) e) (giving (top t) v) e (Variable c.in-Var.variable) (slice_index t.environment.items c.in-Var.variable) refl (ap tree_of c.in-Var.is)
    (as_beginning (top t) (giving (top t) v) e _ _ _ (given (top t) _ _ (ap Give (c.variable_in.ensures ∙ ap (λ l. slice_index l c.in-Var.variable) c.as_slice.ensures.value)))) (open_variable (source_of t.program.now) (top t).own.name t.environment.items c.in-Var.variable)))

pub returns-in-Len-clause-ok : goal.returns-in-Len-clause-ok
returns-in-Len-clause-ok g c =
    let t = c.args.self.now in
    let e = c.args.expr in
    let v = c.length_in.result in
    let s = c.requires.sound in
    comes_of _ _ _ (beginning_in t e) (way.Value v) t s refl (leaves_begun t e s) tt
    (reaches_value _ v (beginning (top t) e) (top t)
    (goes_to_value 0 (beginning (top t) e) (giving (top t) v) e (Length c.in-Len.array) _ refl (ap tree_of c.in-Len.is)
    (as_beginning (top t) (giving (top t) v) e _ _ _ (given (top t) _ _ (ap Give c.length_in.ensures))) (open_length (source_of t.program.now) (top t).own.name t.environment.items c.in-Len.array)))

pub returns-in-Hold-clause-ok : goal.returns-in-Hold-clause-ok
returns-in-Hold-clause-ok g c =
    let t = c.args.self.now in
    let e = c.args.expr in
    let new = c.ask.new.self in
    let body = c.deref-in-Hold.result in
    let lock = c.in-Hold.lock in
    let s = c.requires.sound in
    let le = start_in (beginning_in t e) s in
    ok_known c.ask.result way.Stops (λ p. Comes _ _ _ (beginning_in t e) p new) c.ask.ensures.stops c.ask.ensures.ok (λ asks.
    let asked = enters_begun t new e _ _ _ asks in
    let step = begins_by 1 (beginning (top t) e) (top new) e (Hold lock (tree_of body.now)) (Asks lock body) (Release lock ∷ []) refl
    (rw c.deref-in-Hold.ensures (ap tree_of c.in-Hold.is)) (top_becomes (beginning_in t e) new _ _ _ asked le) (λ fs. refl) refl
    (open_hold (source_of t.program.now) (top t).own.name t.environment.items lock body) in
    comes_stop _ (beginning_in t e) new (pause.Asks lock) s refl (changes_leave (beginning_in t e) new _ _ _ asked le) (not_ended new (pause.Asks lock) tt) (λ e. cc)
    (once (beginning (top t) e) _ step.goes, step.pending, step.locks ∙ ap (λ l. lock ∷ l) (sym step.old_locks)))

pub returns-else-not-is_any-clause-ok : goal.returns-else-not-is_any-clause-ok
returns-else-not-is_any-clause-ok g c =
    let t = c.args.self.now in
    let e = c.args.expr in
    let new = c.fork.new.self in
    ok_forked c.fork.result c.in-Fork.class _ (λ p. Comes _ _ _ (beginning_in t e) p new) c.fork.ensures.child c.fork.ensures.counts
    (λ child counts spawned. comes_fork _ (beginning_in t e) new child c.in-Fork.class _ _ _ c.requires.sound refl tt (forks_begun t new e _ _ counts) (spawns_begun t child.value e _ spawned)
    (λ spawned. goes_to_fork (beginning (top t) e) (top new) (top child.value) e c.deref-in-Fork.result c.deref-in-Fork-2.result c.deref-in-Fork-3.result c.in-Fork.class refl
    (rw (c.deref-in-Fork.ensures, c.deref-in-Fork-2.ensures, c.deref-in-Fork-3.ensures) (ap tree_of c.in-Fork.is)) spawned))

pub returns-then-not-is_any-clause-ok : goal.returns-then-not-is_any-clause-ok
returns-then-not-is_any-clause-ok g c =
    let t = c.args.self.now in
    let e = c.args.expr in
    let new = c.fork_here.new.self in
    let child = c.deref-then-not-is_any.result in
    let during = c.deref-then-not-is_any-2.result in
    let next = c.deref-then-not-is_any-3.result in
    ok_known c.fork_here.result (way.Begin during) (λ p. Comes _ _ _ (beginning_in t e) p new) c.fork_here.ensures.begins c.fork_here.ensures.counts
    (λ counts. runs_place _ (beginning_in t e) (beginning_in new during) _ _ _ (λ all. search (rules, c.is_any.ensures all)) c.requires.sound (forks_part t new e during _ _ counts)
    (λ pushed. places_fork (beginning (top t) e) (beginning (top new) during) e child during next c.in-Fork.class refl
    (rw (c.deref-then-not-is_any.ensures, c.deref-then-not-is_any-2.ensures, c.deref-then-not-is_any-3.ensures) (ap tree_of c.in-Fork.is)) pushed))

pub returns-in-Binary-clause-ok : goal.returns-in-Binary-clause-ok
returns-in-Binary-clause-ok g c =
    let t = c.args.self.now in
    let e = c.args.expr in
    let s = c.requires.sound in
    let new = c.operate.new.self in
    ok_both c.operate.result _ _ _ c.operate.ensures.leaves (c.operate.ensures.ok e (rw (c.deref-in-Binary.ensures, c.deref-in-Binary-2.ensures) (ap tree_of c.in-Binary.is)))
    (λ p leaves r. comes_of _ _ _ (beginning_in t e) p new s refl (leaves_from t new e leaves.0) (no_stop p _ leaves.1) r)

pub returns-in-Item-clause-ok : goal.returns-in-Item-clause-ok
returns-in-Item-clause-ok g c =
    let t = c.args.self.now in
    let part = c.deref.result in
    enters _ _ t c.enter.new.self c.args.expr part (Item c.in-Item.array (tree_of part.now)) (Index c.in-Item.array) c.enter.result c.requires.sound c.enter.ensures.begins c.enter.ensures.ok
    (rw (c.deref.ensures) (ap tree_of c.in-Item.is)) refl refl (open_item (source_of t.program.now) (top t).own.name t.environment.items c.in-Item.array part)

pub returns-in-If-clause-ok : goal.returns-in-If-clause-ok
returns-in-If-clause-ok g c =
    let t = c.args.self.now in
    let part = c.deref-in-If-3.result in
    enters _ _ t c.enter-in-If.new.self c.args.expr part (Choose (tree_of part.now) (tree_of c.deref-in-If.result.now) (tree_of c.deref-in-If-2.result.now)) (Branch c.deref-in-If.result c.deref-in-If-2.result) c.enter-in-If.result c.requires.sound c.enter-in-If.ensures.begins c.enter-in-If.ensures.ok
    (rw (c.deref-in-If.ensures, c.deref-in-If-2.ensures, c.deref-in-If-3.ensures) (ap tree_of c.in-If.is)) refl refl (open_choice (source_of t.program.now) (top t).own.name t.environment.items part c.deref-in-If.result c.deref-in-If-2.result)

pub returns-in-Let-clause-ok : goal.returns-in-Let-clause-ok
returns-in-Let-clause-ok g c =
    let t = c.args.self.now in
    let part = c.deref-in-Let-2.result in
    enters _ _ t c.enter-in-Let.new.self c.args.expr part (Bind (tree_of part.now) (tree_of c.deref-in-Let.result.now)) (Extend c.deref-in-Let.result) c.enter-in-Let.result c.requires.sound c.enter-in-Let.ensures.begins c.enter-in-Let.ensures.ok
    (rw (c.deref-in-Let.ensures, c.deref-in-Let-2.ensures) (ap tree_of c.in-Let.is)) refl refl (open_binding (source_of t.program.now) (top t).own.name t.environment.items part c.deref-in-Let.result)

pub returns-in-Tally-clause-ok : goal.returns-in-Tally-clause-ok
returns-in-Tally-clause-ok g c =
    let t = c.args.self.now in
    let part = c.deref-in-Tally-2.result in
    enters _ _ t c.enter-in-Tally.new.self c.args.expr part (Tally c.in-Tally.ledger (tree_of part.now) (tree_of c.deref-in-Tally.result.now)) (Amount c.in-Tally.ledger c.deref-in-Tally.result) c.enter-in-Tally.result c.requires.sound c.enter-in-Tally.ensures.begins c.enter-in-Tally.ensures.ok
    (rw (c.deref-in-Tally.ensures, c.deref-in-Tally-2.ensures) (ap tree_of c.in-Tally.is)) refl refl (open_tally (source_of t.program.now) (top t).own.name t.environment.items c.in-Tally.ledger part c.deref-in-Tally.result)

pub returns-in-Fold-clause-ok : goal.returns-in-Fold-clause-ok
returns-in-Fold-clause-ok g c =
    let t = c.args.self.now in
    let part = c.deref-in-Fold-4.result in
    enters _ _ t c.enter-in-Fold.new.self c.args.expr part (Fold (tree_of part.now) (tree_of c.deref-in-Fold.result.now) (tree_of c.deref-in-Fold-2.result.now) (tree_of c.deref-in-Fold-3.result.now)) (FoldTo c.deref-in-Fold.result c.deref-in-Fold-2.result c.deref-in-Fold-3.result) c.enter-in-Fold.result c.requires.sound c.enter-in-Fold.ensures.begins c.enter-in-Fold.ensures.ok
    (rw (c.deref-in-Fold.ensures, c.deref-in-Fold-2.ensures, c.deref-in-Fold-3.ensures, c.deref-in-Fold-4.ensures) (ap tree_of c.in-Fold.is)) refl refl (open_fold (source_of t.program.now) (top t).own.name t.environment.items part c.deref-in-Fold.result c.deref-in-Fold-2.result c.deref-in-Fold-3.result)

pub returns-in-Sweep-clause-ok : goal.returns-in-Sweep-clause-ok
returns-in-Sweep-clause-ok g c =
    let t = c.args.self.now in
    let part = c.deref-in-Sweep-3.result in
    enters _ _ t c.enter-in-Sweep.new.self c.args.expr part (Sweep c.in-Sweep.reduction c.in-Sweep.grain (tree_of part.now) (tree_of c.deref-in-Sweep.result.now) (tree_of c.deref-in-Sweep-2.result.now)) (SweepTo c.in-Sweep.reduction c.in-Sweep.grain c.deref-in-Sweep.result c.deref-in-Sweep-2.result) c.enter-in-Sweep.result c.requires.sound c.enter-in-Sweep.ensures.begins c.enter-in-Sweep.ensures.ok
    (rw (c.deref-in-Sweep.ensures, c.deref-in-Sweep-2.ensures, c.deref-in-Sweep-3.ensures) (ap tree_of c.in-Sweep.is)) refl refl (open_sweep (source_of t.program.now) (top t).own.name t.environment.items c.in-Sweep.reduction c.in-Sweep.grain part c.deref-in-Sweep.result c.deref-in-Sweep-2.result)
