-- The states of a cell as words.
use Rattle.std.specs.Prelude.{ℕ, ◌==◌, if◌then◌else◌}
use Rattle.arachne_join.specs.declared.state.CellState.{CellState, TheVariants.{Empty, Full, Taken, Waiting}}

-- the state of a word: 0 is empty, 1 full, 2 taken, 3 waiting
abbrev pub state_of : ℕ → CellState
state_of n = if n == 0 then Empty else (if n == 1 then Full else (if n == 2 then Taken else Waiting))
