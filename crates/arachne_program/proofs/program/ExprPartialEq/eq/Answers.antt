use Rattle.std.proofs.lemmas.Bool.Decides.{same_from_decides}
use Rattle.arachne_program.specs.{Program.tree_of, Same.same_tree, SameDecides.same_tree-Decides}
use Rattle.arachne_program.proofs.program.ExprPartialEq.eq.Goals as goal

pub returns-clause-eq : goal.returns-clause-eq
returns-clause-eq c =
    same_from_decides c.is_same.result (same_tree (tree_of c.args.self.now) (tree_of c.args.other.now)) c.is_same.ensures
    (same_tree-Decides (tree_of c.args.self.now) (tree_of c.args.other.now))
