-- The order of the recursion: from a helper to the expression that it takes, and from that to its parts.
use Rattle.std.proofs.Common.{◌+◌, ◌*◌}
use Rattle.arachne_program.specs.{Program.tree_of, Nesting.nesting}
use Rattle.arachne_machine.proofs.worth.+recursion.Given as goal

abbrev pub decreases-value_at_once : goal.decreases-value_at_once
decreases-value_at_once l = 2 * nesting (tree_of l.expr.now)

abbrev pub decreases-side_at_once : goal.decreases-side_at_once
decreases-side_at_once l = 2 * nesting (tree_of l.expr.now) + 1

abbrev pub decreases-bound_at_once : goal.decreases-bound_at_once
decreases-bound_at_once l = 2 * nesting (tree_of l.body.now) + 1
