use Rattle.arachne_exec.proofs.Lowest.{Picked}
use Rattle.arachne_exec.proofs.taking.lowest.Given as goal

abbrev pub invariant-loop-count : goal.invariant-loop-count
invariant-loop-count l = Picked l.word l.most l.pick l.left l.count
