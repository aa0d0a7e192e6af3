-- Whose outcome a join cell is for, and what may be in it.
use Rattle.std.specs.Prelude.{◌≡◌, None, Some}
use Rattle.arachne_program.specs.{declared.program.Program.Program, Program.source_of}
use Rattle.arachne_machine.specs.{Outcome.Finished, Nested.IsAlone}
use Rattle.arachne_jobs.specs.{Threads.{Thread, program_of, name_of, tag_of, pause_of}, declared.wanted.Wanted.Wanted}
use Rattle.arachne_jobs.specs.declared.left.{LeftInCell.LeftInCell, Waiting.Waiting, Found.Found}
use Rattle.arachne_jobs.specs.declared.left.LeftInCell.TheVariants as left
use Rattle.arachne_jobs.specs.declared.left.Found.TheVariants as found

-- true if the outcome is that of the wanted program and of the thread with the wanted name
abbrev pub IsWanted : Wanted → Finished → Type 0
IsWanted wanted outcome = (outcome.program ≡ wanted.program.value) × (outcome.name ≡ wanted.name.value)

-- true if the wanted outcome is one of a program equal to this one
abbrev pub IsOf : Program → Wanted → Type 0
IsOf program wanted = source_of wanted.program.value ≡ source_of program

-- true if the wanted outcome is that of this thread
abbrev pub IsFor : Thread → Wanted → Type 0
IsFor thread wanted = (wanted.program.value ≡ program_of thread) × (wanted.name.value ≡ name_of thread)

-- true if the thread has no request that is not answered, and no other thread runs inside it
abbrev pub HasNotBegun : Thread → Type 0
HasNotBegun thread = (pause_of thread ≡ None) × IsAlone thread

-- true if this is the wanted outcome, and not a child that waits
abbrev pub IsLeftFor : Wanted → LeftInCell → Type 0
IsLeftFor wanted (left.Child waiting) = ⊥
IsLeftFor wanted (left.Outcome outcome) = IsWanted wanted outcome

-- true if the waiting child has the wanted tag and parent
abbrev pub IsTold : Waiting → Wanted → Type 0
IsTold waiting wanted = (tag_of waiting.thread ≡ wanted.tag.value) × (Some waiting.parent ≡ wanted.parent.value)

-- true if the cell has the thread whose outcome is wanted, which waits there and has not begun
abbrev pub MayWait : Wanted → LeftInCell → Type 0
MayWait wanted (left.Child waiting) = IsFor waiting.thread wanted × HasNotBegun waiting.thread × IsTold waiting wanted
MayWait wanted (left.Outcome outcome) = ⊥

-- true if a parent has found nothing, the wanted outcome, or the thread whose outcome is wanted
abbrev pub IsFoundFor : Wanted → Found → Type 0
IsFoundFor wanted (found.Outcome outcome) = IsWanted wanted outcome
IsFoundFor wanted (found.Child thread) = IsFor thread wanted × HasNotBegun thread
IsFoundFor wanted found.Nothing = Unit {0}

-- true if the outcome or child that was found, if any, is of a program equal to this one
abbrev pub IsFoundOf : Program → Found → Type 0
IsFoundOf program (found.Outcome outcome) = source_of outcome.program ≡ source_of program
IsFoundOf program (found.Child thread) = (source_of (program_of thread) ≡ source_of program) × HasNotBegun thread
IsFoundOf program found.Nothing = Unit {0}
