use Rattle.std.specs.Prelude.{string_bytes}
use Rattle.arachne_cli.proofs.JudgedInTurn.{HasWritten}
use Rattle.arachne_cli.proofs.judging.judge.Given as goal

-- the samples so far are judged, and their advice is written
abbrev pub invariant-loop-index : goal.invariant-loop-index
invariant-loop-index l = HasWritten l.fn.settings l.samples l.index l.estimator (string_bytes l.lines)
