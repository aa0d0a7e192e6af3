use Rattle.std.{proofs.Common.{◌≡◌, slice_index}, specs.List.All}
use Rattle.arachne_machine.specs.declared.line.ThreadLine.{ThreadLine}
use Rattle.arachne_run.specs.Histories.{grants_to}
use Rattle.arachne_run.proofs.report.is_granted_as_held.Given as goal

-- where the lines that are left are as held, all are
abbrev pub invariant-loop-line : goal.invariant-loop-line
invariant-loop-line l =
    All (λ (line : ThreadLine). grants_to line.tag l.history.items ≡ slice_index line.holds l.lock) l.line-iterator
    → All (λ (line : ThreadLine). grants_to line.tag l.history.items ≡ slice_index line.holds l.lock) l.threads
