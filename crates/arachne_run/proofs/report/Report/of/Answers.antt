use Rattle.std.proofs.Common.{refl}
use Rattle.arachne_run.proofs.Granting.{granted-same}
use Rattle.arachne_run.proofs.report.Report.of.Goals as goal

pub returns-clause-grants : goal.returns-clause-grants
returns-clause-grants c =
    granted-same c.in-Ok.parts.lines c.in-Ok.parts.lines c.args.remains.histories.items c.as_slice-4.result.now refl c.as_slice-4.ensures.value
    (c.are_grants_holds.ensures (let was = c.in_ok-are_grants_holds.was in let held = c.if-not-branch.false in cc))
