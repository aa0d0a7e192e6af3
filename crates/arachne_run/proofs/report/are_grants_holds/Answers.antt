use Rattle.std.proofs.{Common.{Ok, ap, arith}, lemmas.List.length-map}
use Rattle.arachne_run.proofs.Granting.{granted-more}
use Rattle.arachne_run.proofs.report.are_grants_holds.Goals as goal

pub loop-lock-preserved : goal.loop-lock-preserved
loop-lock-preserved c =
    granted-more c.args.threads.now c.args.histories.now c.loop-lock.lock c.index-histories-lock.result (omega arith)
    c.index-histories-lock.is (c.in_ok-is_granted_as_held.ensures (ap Ok c.if-not-branch.false)) c.loop-lock.invariant

pub returns : goal.returns
returns c = λ _ lock below. c.loop-lock.invariant lock (omega (arith, length-map c.args.histories.now (λ history. history.items)))
