-- The plain tree of a `Program`.
use Rattle.std.specs.Prelude.{map}
use Rattle.arachne_program.specs.declared.program.Expr.{Expr, Num, Var, Len, Item', Binary', If', Let', Tally', Hold', Fork', Fold', Sweep'}
use Rattle.arachne_program.specs.declared.program.Program.{Program}
use Rattle.arachne_program.specs.Tree.{Tree, Number, Variable, Length, Item, Binary, Choose, Bind, Tally, Hold, Fork, Fold, Sweep, Source}

abbrev pub tree_of : Expr → Tree
tree_of (Num n) = Number n
tree_of (Var k) = Variable k
tree_of (Len a) = Length a
tree_of (Item' a p index) = Item a (tree_of index)
tree_of (Binary' operation p a q b) = Binary operation (tree_of a) (tree_of b)
tree_of (If' p condition q first r second) = Choose (tree_of condition) (tree_of first) (tree_of second)
tree_of (Let' p bound q body) = Bind (tree_of bound) (tree_of body)
tree_of (Tally' ledger p amount q body) = Tally ledger (tree_of amount) (tree_of body)
tree_of (Hold' lock p body) = Hold lock (tree_of body)
tree_of (Fork' class p child q during r after) = Fork class (tree_of child) (tree_of during) (tree_of after)
tree_of (Fold' p from q to r first s body) = Fold (tree_of from) (tree_of to) (tree_of first) (tree_of body)
tree_of (Sweep' reduction grain p from q to r body) = Sweep reduction grain (tree_of from) (tree_of to) (tree_of body)

abbrev pub source_of : Program → Source
source_of program = record {
  arrays = map (λ array. array.items) program.arrays.items;
  ledgers = program.ledgers;
  locks = program.locks;
  root = tree_of program.root;
}
