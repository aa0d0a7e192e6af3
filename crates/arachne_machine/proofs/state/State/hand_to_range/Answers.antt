use Rattle.std.proofs.Common.{refl, subst}
use Rattle.arachne_machine.proofs.Handings.{hand_fold_to, hand_fold_first, hand_fold_start, fold_giving, hand_sweep_to, hand_sweep_start}
use Rattle.arachne_machine.proofs.{Lasting.{begins_no_stop, no_stop}, Levels.{changes_leave, top_becomes}}
use Rattle.arachne_machine.proofs.{Outlooks.{as_giving, begins_with, given_from}, Strides.{reaches_once, reaches_part}}
use Rattle.arachne_machine.{proofs.Turning.makes_once, specs.Steps.{IsPopped, beginning, giving, top}}
use Rattle.arachne_machine.specs.declared.{frame.Control.TheVariants.Cover, state.Progress.TheVariants.Goes}
use Rattle.arachne_machine.proofs.state.State.hand_to_range.Goals as goal

pub returns-in-FoldTo-clause-made : goal.returns-in-FoldTo-clause-made
returns-in-FoldTo-clause-made c = λ before popped.
    let t = top c.args.self.now in
    let le = c.requires.start in
    let v = c.args.value in
    let to = c.in-FoldTo.to in
    let new = top c.go_on.new.self in
    reaches_part _ before _ new to c.go_on.ensures.begins
    (hand_fold_to before (giving t v) (beginning new to) v to c.in-FoldTo.first c.in-FoldTo.body (subst (λ f. IsPopped f before (giving t v)) c.in-FoldTo.is popped) refl
    (as_giving t (beginning new to) v _ _ _ (begins_with t new to _ _ _ (top_becomes c.args.self.now c.go_on.new.self _ _ _ c.go_on.ensures.same le))))

pub returns-in-FoldFirst-clause-made : goal.returns-in-FoldFirst-clause-made
returns-in-FoldFirst-clause-made c = λ before popped.
    let t = top c.args.self.now in
    let le = c.requires.start in
    let v = c.args.value in
    let first = c.in-FoldFirst.first in
    let new = top c.go_on-in-FoldFirst.new.self in
    reaches_part _ before _ new first c.go_on-in-FoldFirst.ensures.begins
    (hand_fold_first before (giving t v) (beginning new first) v c.in-FoldFirst.from first c.in-FoldFirst.body (subst (λ f. IsPopped f before (giving t v)) c.in-FoldFirst.is popped) refl
    (as_giving t (beginning new first) v _ _ _ (begins_with t new first _ _ _ (top_becomes c.args.self.now c.go_on-in-FoldFirst.new.self _ _ _ c.go_on-in-FoldFirst.ensures.same le))))

pub returns-in-FoldStart-clause-made : goal.returns-in-FoldStart-clause-made
returns-in-FoldStart-clause-made c = λ before popped.
    let t = top c.args.self.now in
    let v = c.args.value in
    c.turn_fold.ensures.reaches before (λ on turns. makes_once _ before on
    (hand_fold_start before (giving t v) on v c.in-FoldStart.from c.in-FoldStart.to c.in-FoldStart.body (subst (λ f. IsPopped f before (giving t v)) c.in-FoldStart.is popped) refl
    (fold_giving t on v _ _ _ _ turns)))

pub returns-in-SweepTo-clause-made : goal.returns-in-SweepTo-clause-made
returns-in-SweepTo-clause-made c = λ before popped.
    let t = top c.args.self.now in
    let le = c.requires.start in
    let v = c.args.value in
    let to = c.in-SweepTo.to in
    let new = top c.go_on-in-SweepTo.new.self in
    reaches_part _ before _ new to c.go_on-in-SweepTo.ensures.begins
    (hand_sweep_to before (giving t v) (beginning new to) v c.in-SweepTo.reduction c.in-SweepTo.grain to c.in-SweepTo.body (subst (λ f. IsPopped f before (giving t v)) c.in-SweepTo.is popped) refl
    (as_giving t (beginning new to) v _ _ _ (begins_with t new to _ _ _ (top_becomes c.args.self.now c.go_on-in-SweepTo.new.self _ _ _ c.go_on-in-SweepTo.ensures.same le))))

pub returns-in-SweepStart-clause-made : goal.returns-in-SweepStart-clause-made
returns-in-SweepStart-clause-made c = λ before popped.
    let t = top c.args.self.now in
    let le = c.requires.start in
    let v = c.args.value in
    reaches_once _ _ before Goes (record c.args.self.now { control = Cover (record { reduction = c.in-SweepStart.reduction; grain = c.in-SweepStart.grain; first = c.in-SweepStart.first; end = v; body = c.in-SweepStart.body }) }) (refl, tt)
    (hand_sweep_start before (giving t v) _ v c.in-SweepStart.reduction c.in-SweepStart.grain c.in-SweepStart.first c.in-SweepStart.body
    (subst (λ f. IsPopped f before (giving t v)) c.in-SweepStart.is popped) refl (given_from t v _ _ refl))

pub returns-in-FoldTo-clause-leaves : goal.returns-in-FoldTo-clause-leaves
returns-in-FoldTo-clause-leaves c = changes_leave c.args.self.now c.go_on.new.self _ _ _ c.go_on.ensures.same c.requires.start

pub returns-in-FoldFirst-clause-leaves : goal.returns-in-FoldFirst-clause-leaves
returns-in-FoldFirst-clause-leaves c = changes_leave c.args.self.now c.go_on-in-FoldFirst.new.self _ _ _ c.go_on-in-FoldFirst.ensures.same c.requires.start

pub returns-in-FoldStart-clause-leaves : goal.returns-in-FoldStart-clause-leaves
returns-in-FoldStart-clause-leaves c = c.turn_fold.ensures.leaves

pub returns-in-SweepTo-clause-leaves : goal.returns-in-SweepTo-clause-leaves
returns-in-SweepTo-clause-leaves c = changes_leave c.args.self.now c.go_on-in-SweepTo.new.self _ _ _ c.go_on-in-SweepTo.ensures.same c.requires.start

pub returns-in-FoldTo-clause-stops : goal.returns-in-FoldTo-clause-stops
returns-in-FoldTo-clause-stops c = begins_no_stop c.go_on.result _ _ c.go_on.ensures.begins

pub returns-in-FoldFirst-clause-stops : goal.returns-in-FoldFirst-clause-stops
returns-in-FoldFirst-clause-stops c = begins_no_stop c.go_on-in-FoldFirst.result _ _ c.go_on-in-FoldFirst.ensures.begins

pub returns-in-FoldStart-clause-stops : goal.returns-in-FoldStart-clause-stops
returns-in-FoldStart-clause-stops c = no_stop c.turn_fold.result _ c.turn_fold.ensures.stops

pub returns-in-SweepTo-clause-stops : goal.returns-in-SweepTo-clause-stops
returns-in-SweepTo-clause-stops c = begins_no_stop c.go_on-in-SweepTo.result _ _ c.go_on-in-SweepTo.ensures.begins
