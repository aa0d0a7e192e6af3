-- The seat that a handle on an executor holds.
use Rattle.std.specs.Prelude.{◌≡◌}
use Rattle.std.specs.Option.{option_flatten}
use Rattle.std.specs.declared.option.Option.{Option}
use Rattle.std.specs.declared.option.Option.TheVariants.{Some}
use Rattle.arachne_exec_c.specs.Executing.{Exec}
use Rattle.arachne_exec_c.specs.declared.exec_handle.ArachneExec.{ArachneExec}

-- the seat behind a handle, if there is one
abbrev pub held : ArachneExec → Option Exec
held seat = option_flatten seat.value

-- the seats that both hold are of one executor
abbrev pub IsOfOne : ArachneExec → ArachneExec → Type 0
IsOfOne seat other = (a b : Exec) → held seat ≡ Some a → held other ≡ Some b → b.executor ≡ a.executor
