-- Whose outcomes a job's ends of join cells are for.
use Rattle.std.specs.Prelude.{◌≡◌, ℕ, List, MatchOption}
use Rattle.arachne_program.specs.declared.program.Program.{Program}
use Rattle.arachne_jobs.specs.{Cells.IsOf, declared.{wanted.Wanted.Wanted, ends.End.End}}
use Rattle.arachne_jobs.specs.declared.ends.WaitEnd.{WaitEnd}
use Rattle.arachne_jobs.specs.declared.ends.End.TheVariants as at

-- true if the wanted outcome is that of the thread with this name in this program
abbrev pub IsNamed : Program → List ℕ → Wanted → Type 0
IsNamed program name wanted = (wanted.program.value ≡ program) × (wanted.name.value ≡ name)

-- true if this end is for the outcome of the thread with this name, or one from which it takes the outcome of a thread
-- of its program
abbrev pub IsEnd : Program → List ℕ → End → Type 0
IsEnd program name (at.Leaves sender) = IsNamed program name sender.key
IsEnd program name (at.Awaits receiver) = IsOf program receiver.opening.key
IsEnd program name at.Waits = Unit {0}

-- the same for a cell in which a child waits or has waited for a slot
abbrev pub IsWaitEnd : Program → List ℕ → WaitEnd → Type 0
IsWaitEnd program name w =
    MatchOption w.end (IsOf program w.cell.key) (λ end. IsNamed program name w.cell.key × (end ≡ w.cell.table))
