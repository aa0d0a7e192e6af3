-- The share that a handle holds.
use Rattle.std.specs.Prelude.{◌≡◌}
use Rattle.std.specs.Option.{option_flatten}
use Rattle.std.specs.declared.option.Option.{Option}
use Rattle.std.specs.declared.option.Option.TheVariants.{Some}
use Rattle.arachne_exec_c.specs.Adder.{Adder}
use Rattle.arachne_exec_c.specs.declared.adder.ArachneAdder.{ArachneAdder}

-- the share behind a handle, if there is one
abbrev pub held : ArachneAdder → Option Adder
held adder = option_flatten adder.value

-- the shares that both hold are of one set of ledgers
abbrev pub IsOfOne : ArachneAdder → ArachneAdder → Type 0
IsOfOne adder other = (a b : Adder) → held adder ≡ Some a → held other ≡ Some b → b.ledgers.table ≡ a.ledgers.table
