use Rattle.arachne_cli.proofs.Lines.{ledger_lines_step}
use Rattle.arachne_cli.proofs.output.write_totals.Goals as goal

pub loop-ledger-preserved : goal.loop-ledger-preserved
loop-ledger-preserved c = ledger_lines_step _ _ _ _ _ c.loop-ledger-test.true c.loop-ledger.invariant c.in_ok-writeln.ensures.bytes
