-- Programs as plain trees. Two programs of the code that differ only in their addresses have the same tree.
use Rattle.std.specs.Prelude.{ℕ, List}
use Rattle.arachne_program.specs.declared.program.{Class.Class, Operation.Operation, Reduction.Reduction}

-- an expression; its numbers, and the places that it names, may be of any size
pub data Tree : Type 0 where
  Number : ℕ → Tree
  Variable : ℕ → Tree
  Length : ℕ → Tree
  Item : ℕ → Tree → Tree
  Binary : Operation → Tree → Tree → Tree
  -- the condition, and the two choices
  Choose : Tree → Tree → Tree → Tree
  -- a value, and the body that it is bound in
  Bind : Tree → Tree → Tree
  -- a ledger, an amount, a body
  Tally : ℕ → Tree → Tree → Tree
  -- a lock, a body
  Hold : ℕ → Tree → Tree
  -- the child's expression, the one that the thread evaluates while the child runs, and the one after the join
  Fork : Class → Tree → Tree → Tree → Tree
  -- from, to, the first value, the body
  Fold : Tree → Tree → Tree → Tree → Tree
  -- grain, from, to, the body
  Sweep : Reduction → ℕ → Tree → Tree → Tree → Tree

-- a program
pub record Source : Type 0 where
  pub arrays : List (List ℕ)
  pub ledgers : ℕ
  pub locks : ℕ
  pub root : Tree
