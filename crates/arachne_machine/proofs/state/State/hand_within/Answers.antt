use Rattle.std.proofs.Common.{true, false, refl, ap, ◌∙◌, subst}
use Rattle.arachne_program.specs.Value.{apply}
use Rattle.arachne_machine.{specs.Steps.{IsPopped, beginning, giving, top}, proofs.Levels.{changes_leave, top_becomes}}
use Rattle.arachne_machine.proofs.{Outlooks.{as_giving, begins_with, given_from}, Turning.makes_once}
use Rattle.arachne_machine.proofs.Handings.{hand_index, hand_right, hand_apply, hand_branch, is_zero, is_not_zero, hand_extend, hand_restore, hand_fold_turn, hand_sweep_turn}
use Rattle.arachne_machine.proofs.{Strides.{part_begun, reaches_part, reaches_value}, Lasting.{begins_no_stop, no_stop}}
use Rattle.arachne_machine.proofs.state.State.hand_within.Goals.{then-value-eq0, else-value-eq0}
use Rattle.arachne_machine.proofs.Going.{as_is, leaves_on, leaves_same, start_same, top_same}
use Rattle.arachne_machine.proofs.state.State.hand_within.Goals as goal

pub returns-in-Index-clause-made : goal.returns-in-Index-clause-made
returns-in-Index-clause-made c = λ before popped.
    let t = giving (top c.args.self.now) c.args.value in
    reaches_value _ _ before (top c.args.self.now)
    (hand_index before t _ c.args.value c.in-Index.array c.item_in.result (subst (λ f. IsPopped f before t) c.in-Index.is popped) refl c.item_in.ensures (given_from (top c.args.self.now) c.args.value _ _ refl))

pub returns-in-Apply-clause-made : goal.returns-in-Apply-clause-made
returns-in-Apply-clause-made c = λ before popped.
    let t = giving (top c.args.self.now) c.args.value in
    reaches_value _ _ before (top c.args.self.now)
    (hand_apply before t _ c.args.value c.in-Apply.first c.apply.result c.in-Apply.operation (subst (λ f. IsPopped f before t) c.in-Apply.is popped) refl c.apply.ensures (given_from (top c.args.self.now) c.args.value _ _ refl))

pub returns-in-Restore-clause-made : goal.returns-in-Restore-clause-made
returns-in-Restore-clause-made c = λ before popped.
    let t = giving (top c.args.self.now) c.args.value in
    let less = top (record c.args.self.now { environment = c.truncate.new.self }) in
    reaches_value _ _ before less
    (hand_restore before t (giving less c.args.value) c.args.value c.in-Restore.length (subst (λ f. IsPopped f before t) c.in-Restore.is popped) refl
    (record { program = refl; own = refl; below = refl; forks = refl; environment_is = c.truncate.ensures.items; frames_are = refl; control_is = refl }))

pub returns-in-Right-clause-made : goal.returns-in-Right-clause-made
returns-in-Right-clause-made c = λ before popped.
    let t = top c.args.self.now in
    let le = c.requires.start in
    let v = c.args.value in
    let right = c.in-Right.right in
    let new = top c.go_on.new.self in
    reaches_part _ before _ new right c.go_on.ensures.begins
    (hand_right before (giving t v) (beginning new right) v c.in-Right.operation right (subst (λ f. IsPopped f before (giving t v)) c.in-Right.is popped) refl
    (as_giving t (beginning new right) v _ _ _ (begins_with t new right _ _ _ (top_becomes c.args.self.now c.go_on.new.self _ _ _ c.go_on.ensures.same le))))

pub returns-in-Extend-clause-made : goal.returns-in-Extend-clause-made
returns-in-Extend-clause-made c = λ before popped.
    let t = top c.args.self.now in
    let le = c.requires.start in
    let v = c.args.value in
    let body = c.in-Extend.body in
    let new = top c.extend.new.self in
    reaches_part _ before _ new body c.extend.ensures.begins
    (hand_extend before (giving t v) (beginning new body) v body (subst (λ f. IsPopped f before (giving t v)) c.in-Extend.is popped) refl
    (as_giving t (beginning new body) v _ _ _ (begins_with t new body _ _ _ (top_becomes c.args.self.now c.extend.new.self _ _ _ c.extend.ensures.same le))))

pub returns-in-FoldTurn-clause-made : goal.returns-in-FoldTurn-clause-made
returns-in-FoldTurn-clause-made c = λ before popped.
    let t = top c.args.self.now in
    let v = c.args.value in
    let dropped = c.drop_newest.new.self in
    c.turn_fold.ensures.reaches before (λ on turns. makes_once _ before on
    (hand_fold_turn before (giving t v) (top dropped) on v c.in-FoldTurn.next c.in-FoldTurn.end c.in-FoldTurn.body t.control
    (subst (λ f. IsPopped f before (giving t v)) c.in-FoldTurn.is popped) refl
    (as_giving t (top dropped) v _ _ _ (top_same c.args.self.now dropped _ _ c.drop_newest.ensures.same c.requires.start)) turns))

pub returns-in-SweepTurn-clause-made : goal.returns-in-SweepTurn-clause-made
returns-in-SweepTurn-clause-made c = λ before popped.
    let t = top c.args.self.now in
    let v = c.args.value in
    let dropped = c.drop_newest-in-SweepTurn.new.self in
    c.turn_sweep.ensures.reaches before (λ on turns. makes_once _ before on
    (hand_sweep_turn before (giving t v) (top dropped) on v c.in-SweepTurn.reduction c.in-SweepTurn.next c.in-SweepTurn.end c.in-SweepTurn.so_far c.apply-value.result c.in-SweepTurn.body t.control
    (subst (λ f. IsPopped f before (giving t v)) c.in-SweepTurn.is popped) refl
    (as_giving t (top dropped) v _ _ _ (top_same c.args.self.now dropped _ _ c.drop_newest-in-SweepTurn.ensures.same c.requires.start))
    (c.apply-value.ensures ∙ ap (λ o. apply o c.in-SweepTurn.so_far v) c.operation.ensures) turns))

pub returns-after-value-eq0-clause-made : goal.returns-after-value-eq0-clause-made
returns-after-value-eq0-clause-made c = λ before popped.
    let t = top c.args.self.now in
    let le = c.requires.start in
    let v = c.args.value in
    let gives = giving t v in
    let popped_off = subst (λ f. IsPopped f before gives) c.in-Branch.is popped in
    elim c.if-value-eq0.branch [
      | then-value-eq0 b ↦ part_begun _ before t t c.if-value-eq0.next c.in-Branch.second c.in-Branch.second refl b.next-is refl (hand_branch before gives (beginning t c.in-Branch.second) v c.in-Branch.first c.in-Branch.second true popped_off refl (is_zero v b.if-value-eq0.true) (given_from t v _ _ refl))
      | else-value-eq0 b ↦ part_begun _ before t t c.if-value-eq0.next c.in-Branch.first c.in-Branch.first refl b.next-is refl (hand_branch before gives (beginning t c.in-Branch.first) v c.in-Branch.first c.in-Branch.second false popped_off refl (is_not_zero v b.if-value-eq0.false) (given_from t v _ _ refl))
    ]

pub returns-in-Index-clause-leaves : goal.returns-in-Index-clause-leaves
returns-in-Index-clause-leaves c = leaves_same c.args.self.now c.args.self.now _ _ (as_is c.args.self.now) c.requires.start

pub returns-in-Apply-clause-leaves : goal.returns-in-Apply-clause-leaves
returns-in-Apply-clause-leaves c = leaves_same c.args.self.now c.args.self.now _ _ (as_is c.args.self.now) c.requires.start

pub returns-in-Right-clause-leaves : goal.returns-in-Right-clause-leaves
returns-in-Right-clause-leaves c = changes_leave c.args.self.now c.go_on.new.self _ _ _ c.go_on.ensures.same c.requires.start

pub returns-in-Extend-clause-leaves : goal.returns-in-Extend-clause-leaves
returns-in-Extend-clause-leaves c = changes_leave c.args.self.now c.extend.new.self _ _ _ c.extend.ensures.same c.requires.start

pub returns-in-FoldTurn-clause-leaves : goal.returns-in-FoldTurn-clause-leaves
returns-in-FoldTurn-clause-leaves c =
    leaves_on c.args.self.now c.drop_newest.new.self c.turn_fold.new.self (leaves_same c.args.self.now c.drop_newest.new.self _ _ c.drop_newest.ensures.same c.requires.start)
    c.turn_fold.ensures.leaves

pub returns-in-SweepTurn-clause-leaves : goal.returns-in-SweepTurn-clause-leaves
returns-in-SweepTurn-clause-leaves c =
    let d = c.drop_newest-in-SweepTurn.new.self in
    leaves_on c.args.self.now d c.turn_sweep.new.self (leaves_same c.args.self.now d _ _ c.drop_newest-in-SweepTurn.ensures.same c.requires.start) c.turn_sweep.ensures.leaves

pub turn_fold-requires-clause-start : goal.turn_fold-requires-clause-start
turn_fold-requires-clause-start c = start_same c.args.self.now c.drop_newest.new.self _ _ c.drop_newest.ensures.same c.requires.start

pub turn_sweep-requires-clause-start : goal.turn_sweep-requires-clause-start
turn_sweep-requires-clause-start c = start_same c.args.self.now c.drop_newest-in-SweepTurn.new.self _ _ c.drop_newest-in-SweepTurn.ensures.same c.requires.start

pub returns-after-value-eq0-clause-leaves : goal.returns-after-value-eq0-clause-leaves
returns-after-value-eq0-clause-leaves c = leaves_same c.args.self.now c.args.self.now _ _ (as_is c.args.self.now) c.requires.start

pub returns-in-Right-clause-stops : goal.returns-in-Right-clause-stops
returns-in-Right-clause-stops c = begins_no_stop c.go_on.result _ _ c.go_on.ensures.begins

pub returns-in-Extend-clause-stops : goal.returns-in-Extend-clause-stops
returns-in-Extend-clause-stops c = begins_no_stop c.extend.result _ _ c.extend.ensures.begins

pub returns-in-FoldTurn-clause-stops : goal.returns-in-FoldTurn-clause-stops
returns-in-FoldTurn-clause-stops c = no_stop c.turn_fold.result _ c.turn_fold.ensures.stops

pub returns-in-SweepTurn-clause-stops : goal.returns-in-SweepTurn-clause-stops
returns-in-SweepTurn-clause-stops c = no_stop c.turn_sweep.result _ c.turn_sweep.ensures.stops
