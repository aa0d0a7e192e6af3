use Rattle.std.proofs.Common.{◌+◌, ◌*◌, max}
use Rattle.arachne_program.specs.{Program.tree_of, Nesting.nesting}
use Rattle.arachne_lang.proofs.checker.Scope.+judging.Given as goal

abbrev pub decreases-check : goal.decreases-check
decreases-check l = 2 * nesting (tree_of l.expr.now)

abbrev pub decreases-two : goal.decreases-two
decreases-two l = 2 * max (nesting (tree_of l.a.now)) (nesting (tree_of l.b.now)) + 1
