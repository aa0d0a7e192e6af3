-- The check of the nodes of an expression, part by part.
use Rattle.std.specs.Prelude.{ℕ, ◌+◌, ◌≤◌, length, sum_by, List, [], ◌∷◌, Option, None, Some, Result, Ok, Err}
use Rattle.arachne_program.specs.declared.{check_fault.CheckFault.CheckFault, program.Program.Program}
use Rattle.arachne_program.specs.{Program.tree_of, Checked.{NodeFault, node_count}}

-- the number of the node that follows these nodes, whose first has the number `node`; or their first fault
abbrev pub judged : ℕ → List (Option NodeFault) → Result ℕ CheckFault
judged node [] = Ok node
judged node (None ∷ nodes) = judged (node + 1) nodes
judged node (Some fault ∷ nodes) = Err (fault node)

-- the program keeps each of the limits
pub record KeepsLimits (program : Program) : Type 0 where
  pub nodes : node_count (tree_of program.root) ≤ 4096
  pub arrays : length program.arrays.items ≤ 64
  pub items : sum_by (λ array. length array.items) program.arrays.items ≤ 1000000
  pub ledgers : program.ledgers ≤ 16
  pub locks : program.locks ≤ 16
