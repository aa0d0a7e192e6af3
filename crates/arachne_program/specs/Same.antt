-- Tests whether two programs are the same, part by part.
use Rattle.std.specs.Prelude.{Bool, true, false, ◌&&◌, ◌==◌, nat_eq}
use lib.Pointwise.{pointwise}
use Rattle.arachne_program.specs.declared.program.Class.{Class, TheVariants.{Normal, Exclusive}}
use Rattle.arachne_program.specs.declared.program.Operation.{Operation}
use Rattle.arachne_program.specs.declared.program.Operation.TheVariants.{Add, Sub, Mul, Min, Max, Xor, Lt, Eq}
use Rattle.arachne_program.specs.declared.program.Reduction.{Reduction}
use Rattle.arachne_program.specs.declared.program.Reduction.TheVariants.{Sum, Product, Parity, Least, Greatest}
use Rattle.arachne_program.specs.Tree.{Tree, Number, Variable, Length, Item, Binary, Choose, Bind, Tally, Hold, Fork, Fold, Sweep, Source}

abbrev pub same_class : Class → Class → Bool
same_class Normal Normal = true
same_class Exclusive Exclusive = true
same_class _ _ = false

abbrev pub same_operation : Operation → Operation → Bool
same_operation Add Add = true
same_operation Sub Sub = true
same_operation Mul Mul = true
same_operation Min Min = true
same_operation Max Max = true
same_operation Xor Xor = true
same_operation Lt Lt = true
same_operation Eq Eq = true
same_operation _ _ = false

abbrev pub same_reduction : Reduction → Reduction → Bool
same_reduction Sum Sum = true
same_reduction Product Product = true
same_reduction Parity Parity = true
same_reduction Least Least = true
same_reduction Greatest Greatest = true
same_reduction _ _ = false

abbrev pub same_tree : Tree → Tree → Bool
same_tree (Number m) (Number n) = m == n
same_tree (Variable j) (Variable k) = j == k
same_tree (Length a) (Length b) = a == b
same_tree (Item a index) (Item b index') = a == b && same_tree index index'
same_tree (Binary operation a b) (Binary operation' a' b') = same_operation operation operation' && same_tree a a' && same_tree b b'
same_tree (Choose condition first second) (Choose condition' first' second') = same_tree condition condition' && same_tree first first' && same_tree second second'
same_tree (Bind bound body) (Bind bound' body') = same_tree bound bound' && same_tree body body'
same_tree (Tally ledger amount body) (Tally ledger' amount' body') = ledger == ledger' && same_tree amount amount' && same_tree body body'
same_tree (Hold lock body) (Hold lock' body') = lock == lock' && same_tree body body'
same_tree (Fork class child during after) (Fork class' child' during' after') =
    same_class class class' && same_tree child child' && same_tree during during' && same_tree after after'
same_tree (Fold from to first body) (Fold from' to' first' body') = same_tree from from' && same_tree to to' && same_tree first first' && same_tree body body'
same_tree (Sweep reduction grain from to body) (Sweep reduction' grain' from' to' body') =
    same_reduction reduction reduction' && grain == grain' && same_tree from from' && same_tree to to' && same_tree body body'
same_tree _ _ = false

abbrev pub same_source : Source → Source → Bool
same_source a b = pointwise (pointwise nat_eq) a.arrays b.arrays && a.ledgers == b.ledgers && a.locks == b.locks && same_tree a.root b.root
