use Rattle.std.proofs.Common.{map, reverse, sum_by}
use Rattle.arachne_machine.specs.Alone.{key, Rests, turns_left}
use Rattle.arachne_machine.proofs.alone.run_all.Given as goal

abbrev pub invariant-loop-thread : goal.invariant-loop-thread
invariant-loop-thread l = Rests l.fn.root.running.program (reverse l.threads.items) (map key (reverse l.outcomes.items))

abbrev pub decreases-loop-thread : goal.decreases-loop-thread
decreases-loop-thread l = sum_by turns_left l.threads.items
