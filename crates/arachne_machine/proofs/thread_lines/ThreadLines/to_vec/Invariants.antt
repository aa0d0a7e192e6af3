use Rattle.std.proofs.Common.{◌≡◌, ◌++◌}
use Rattle.arachne_machine.proofs.thread_lines.ThreadLines.to_vec.Given as goal

abbrev pub invariant-loop-line : goal.invariant-loop-line
invariant-loop-line l = l.lines.items ++ l.line-iterator ≡ l.self
