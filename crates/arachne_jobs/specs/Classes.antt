-- The classes (normal or exclusive) of the threads that an expression forks.
use Rattle.std.specs.Prelude.{Bool, true, false, ◌||◌}
use Rattle.arachne_program.specs.declared.program.Class.{Class, TheVariants.{Normal, Exclusive}}
use Rattle.arachne_program.specs.Tree.{Tree, Number, Variable, Length, Item, Binary, Choose, Bind, Tally, Hold, Fork, Fold, Sweep}

abbrev pub is_exclusive : Class → Bool
is_exclusive Normal = false
is_exclusive Exclusive = true

-- true if the expression, or one inside it, forks an exclusive thread, which needs a core for itself
abbrev pub forks_exclusive : Tree → Bool
forks_exclusive (Number n) = false
forks_exclusive (Variable k) = false
forks_exclusive (Length a) = false
forks_exclusive (Item a index) = forks_exclusive index
forks_exclusive (Binary operation first second) = forks_exclusive first || forks_exclusive second
forks_exclusive (Choose condition first second) = forks_exclusive condition || forks_exclusive first || forks_exclusive second
forks_exclusive (Bind bound body) = forks_exclusive bound || forks_exclusive body
forks_exclusive (Tally ledger amount body) = forks_exclusive amount || forks_exclusive body
forks_exclusive (Hold lock body) = forks_exclusive body
forks_exclusive (Fork class child during after) = is_exclusive class || forks_exclusive child || forks_exclusive during || forks_exclusive after
forks_exclusive (Fold from to first body) = forks_exclusive from || forks_exclusive to || forks_exclusive first || forks_exclusive body
forks_exclusive (Sweep reduction grain from to body) = forks_exclusive from || forks_exclusive to || forks_exclusive body
