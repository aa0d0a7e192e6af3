-- The order of the recursion: from a form to its parts, which have fewer nodes together.
use Rattle.std.proofs.Common.{◌≡◌, ◌+◌, ◌*◌, ◌≤◌, ◌++◌, map, drop}
use Rattle.std.specs.List.{AllByRecursion}
use Rattle.arachne_program.specs.Program.{tree_of}
use Rattle.arachne_program.specs.Checked.{node_count}
use Rattle.arachne_lang.specs.Text.{NumbersFit}
use Rattle.arachne_lang.specs.Spelling.{after_spaces, spelling}
use Rattle.arachne_lang.proofs.PrintedForms.{total}
use Rattle.arachne_lang.proofs.printing.+expression.Given as goal

abbrev pub decreases-push_expression : goal.decreases-push_expression
decreases-push_expression l = 2 * node_count (tree_of l.expr.now)

abbrev pub decreases-push_form : goal.decreases-push_form
decreases-push_form l = 2 * total (λ part. node_count (tree_of part.now)) l.parts.now + 1

-- The text and the rest of the parts are all parts, all numbers fit if those of the rest do, and the rest has no more
-- nodes than all parts.
abbrev pub invariant-push_form-loop-part : goal.invariant-push_form-loop-part
invariant-push_form-loop-part l = record {
  written : l.text.items ++ after_spaces (map (λ part. spelling (tree_of part.now)) (drop l.part-index l.parts))
      ≡ l.initial.text.items ++ after_spaces (map (λ part. spelling (tree_of part.now)) l.parts);
  fit : AllByRecursion (λ part. NumbersFit (tree_of part.now)) (drop l.part-index l.parts) → AllByRecursion (λ part. NumbersFit (tree_of part.now)) l.parts;
  fewer : total (λ part. node_count (tree_of part.now)) (drop l.part-index l.parts) ≤ total (λ part. node_count (tree_of part.now)) l.parts;
}
