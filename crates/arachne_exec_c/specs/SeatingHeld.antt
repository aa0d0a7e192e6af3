-- The seat that a handle on locks holds.
use Rattle.std.specs.Prelude.{◌≡◌}
use Rattle.std.specs.Option.{option_flatten}
use Rattle.std.specs.declared.option.Option.{Option}
use Rattle.std.specs.declared.option.Option.TheVariants.{Some}
use Rattle.arachne_exec_c.specs.Seating.{Seating}
use Rattle.arachne_exec_c.specs.declared.locks_handle.ArachneLocks.{ArachneLocks}

-- the seat behind a handle, if there is one
abbrev pub held : ArachneLocks → Option Seating
held seat = option_flatten seat.value

-- the seats that both hold are of one set of locks
abbrev pub IsOfOne : ArachneLocks → ArachneLocks → Type 0
IsOfOne seat other = (a b : Seating) → held seat ≡ Some a → held other ≡ Some b → b.locks ≡ a.locks
