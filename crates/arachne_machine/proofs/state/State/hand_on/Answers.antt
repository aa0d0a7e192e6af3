use Rattle.std.proofs.Common.{refl, subst}
use Rattle.arachne_machine.specs.declared.pause.Pending.TheVariants as pause
use Rattle.arachne_machine.{specs.Steps.{IsPopped, giving, top}, proofs.Outlooks.given_from}
use Rattle.arachne_machine.proofs.{Handings.{hand_amount, hand_release, hand_join, hand_merge}, Strides.reaches_stop}
use Rattle.arachne_machine.proofs.state.State.hand_on.Goals as goal

pub returns-in-Amount-clause-made : goal.returns-in-Amount-clause-made
returns-in-Amount-clause-made c = λ before popped.
    let t = top c.args.self.now in
    let v = c.args.value in
    reaches_stop _ before (pause.Tallies c.in-Amount.ledger v) _ tt
    (hand_amount before (giving t v) _ v c.in-Amount.ledger c.in-Amount.body (subst (λ f. IsPopped f before (giving t v)) c.in-Amount.is popped) refl (given_from t v _ _ refl))

pub returns-in-Release-clause-made : goal.returns-in-Release-clause-made
returns-in-Release-clause-made c = λ before popped.
    let t = top c.args.self.now in
    let v = c.args.value in
    reaches_stop _ before (pause.Frees c.in-Release.lock) _ tt
    (hand_release before (giving t v) _ v c.in-Release.lock (subst (λ f. IsPopped f before (giving t v)) c.in-Release.is popped) refl (given_from t v _ _ refl))

pub returns-in-Join-clause-made : goal.returns-in-Join-clause-made
returns-in-Join-clause-made c = λ before popped.
    let t = top c.args.self.now in
    let v = c.args.value in
    reaches_stop _ before pause.Joins _ tt
    (hand_join before (giving t v) _ v c.in-Join.number c.in-Join.after (subst (λ f. IsPopped f before (giving t v)) c.in-Join.is popped) refl (given_from t v _ _ refl))

pub returns-in-Merge-clause-made : goal.returns-in-Merge-clause-made
returns-in-Merge-clause-made c = λ before popped.
    let t = top c.args.self.now in
    let v = c.args.value in
    reaches_stop _ before pause.Joins _ tt
    (hand_merge before (giving t v) _ v c.in-Merge.number c.in-Merge.reduction (subst (λ f. IsPopped f before (giving t v)) c.in-Merge.is popped) refl (given_from t v _ _ refl))
