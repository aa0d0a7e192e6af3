-- The nesting of an expression.
use Rattle.std.specs.Prelude.{ℕ, ◌+◌, max}
use Rattle.arachne_program.specs.Tree.{Tree, Number, Variable, Length, Item, Binary, Choose, Bind, Tally, Hold, Fork, Fold, Sweep}

-- the level of the deepest part, the whole being at level 1
abbrev pub nesting : Tree → ℕ
nesting (Number n) = 1
nesting (Variable k) = 1
nesting (Length a) = 1
nesting (Item a index) = nesting index + 1
nesting (Binary operation a b) = max (nesting a) (nesting b) + 1
nesting (Choose condition first second) = max (nesting condition) (max (nesting first) (nesting second)) + 1
nesting (Bind bound body) = max (nesting bound) (nesting body) + 1
nesting (Tally ledger amount body) = max (nesting amount) (nesting body) + 1
nesting (Hold lock body) = nesting body + 1
nesting (Fork class child during after) = max (nesting child) (max (nesting during) (nesting after)) + 1
nesting (Fold from to first body) = max (nesting from) (max (nesting to) (max (nesting first) (nesting body))) + 1
nesting (Sweep reduction grain from to body) = max (nesting from) (max (nesting to) (nesting body)) + 1
