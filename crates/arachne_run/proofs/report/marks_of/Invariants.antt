use Rattle.std.proofs.Common.{map}
use Rattle.arachne_run.proofs.Marking.{MarksBefore}
use Rattle.arachne_run.proofs.report.marks_of.Given as goal

abbrev pub invariant-loop-line : goal.invariant-loop-line
invariant-loop-line l = MarksBefore (map (λ line. line.tag) l.threads) (map (λ line. line.tag) l.line-iterator) l.marks.items
