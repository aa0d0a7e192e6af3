use Rattle.std.proofs.Common.{◌-◌}
use Rattle.arachne_exec_tests.proofs.shortage.each_growth_is_refused_in_turn.Given as goal

abbrev pub decreases-loop-refused : goal.decreases-loop-refused
decreases-loop-refused g l = 200 - l.refused
