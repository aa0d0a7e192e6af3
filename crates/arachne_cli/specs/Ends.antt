-- The effect of a command that needs only one kernel thread on the streams of the program.
use Rattle.std.specs.Prelude.{ℕ, ◌≡◌, ◌≢◌, List, ◌++◌, take, Option, Some, None, IfSome, IsSome, ⊤}
use Rattle.std.specs.Io.KnownBytes.{Appends, Keeps}
use Rattle.clap.specs.{Words.kind_of, declared.error.kind.ErrorKind.TheVariants.OutOfMemory}
use Rattle.arachne_cli.specs.declared.command_line.{SerialRequest.SerialRequest, NotAsked.NotAsked}
use Rattle.arachne_cli.specs.declared.command_line.NotAsked.TheVariants.{NoOrder as NoOrderAt, Refused}
use Rattle.arachne_cli.specs.declared.fault.Fault.{Fault, TheVariants.{NoOrder, Memory, Write}}
use Rattle.arachne_cli.specs.{CommandLine.asked_serially, Fault.fault_line, Answers.{IsAnswer, IsCause}}

-- bytes, if they are known, grow by a prefix of these
abbrev pub AppendsFront : Option (List ℕ) → Option (List ℕ) → List ℕ → Type 0
AppendsFront None new bytes = ⊤
AppendsFront (Some old) new bytes = (n : ℕ) × (new ≡ Some (old ++ take n bytes))

-- The effect on the faults stream if the arguments are refused with status 2. For a malformed order, its line was
-- written. If the parser of command lines refuses the arguments, this says only that memory was not the reason.
abbrev pub IsTold : NotAsked → Option (List ℕ) → Option (List ℕ) → Type 0
IsTold (NoOrderAt index) before after = AppendsFront before after (fault_line (NoOrder index))
IsTold (Refused error) before after = kind_of error ≢ OutOfMemory

-- If the arguments make no request, the only fault is that memory was refused.
abbrev pub IsCauseFor : Option SerialRequest → List ℕ → Fault → Type 0
IsCauseFor None input fault = fault ≡ Memory
IsCauseFor (Some request) input fault = IsCause request input fault

-- If the input is known, the arguments make a request, and the output grows by the answer to the request.
abbrev pub IsAnswered : List (List ℕ) → Option (List ℕ) → Option (List ℕ) → Option (List ℕ) → Type 0
IsAnswered words input before after =
    IfSome input (λ known. (request : SerialRequest) × (asked_serially words ≡ Some request) × (text : List ℕ) × IsAnswer request known text × Appends before after text)

-- Like `IsAnswered`, but the output grows only by a prefix of the answer.
abbrev pub IsCutShort : List (List ℕ) → Option (List ℕ) → Option (List ℕ) → Option (List ℕ) → Type 0
IsCutShort words input before after =
    IfSome input (λ known. (request : SerialRequest) × (asked_serially words ≡ Some request) × (text : List ℕ) × IsAnswer request known text × AppendsFront before after text)

-- This fault has a cause. The output is unchanged or, if writing failed, has grown by a prefix of the answer. Unless
-- memory was refused, the arguments make a request.
abbrev pub IsAtFault : List (List ℕ) → Option (List ℕ) → Option (List ℕ) → Option (List ℕ) → Fault → Type 0
IsAtFault words input before after fault =
    IfSome input (λ known. IsCauseFor (asked_serially words) known fault)
    × ((fault ≢ Write) → Keeps before after)
    × (fault ≡ Write → IsCutShort words input before after)
    × ((fault ≢ Memory) → IsSome (asked_serially words))

-- There is a fault as in `IsAtFault`, and the faults stream has grown by the fault's line or a prefix of the line.
abbrev pub HasToldFault : List (List ℕ) → Option (List ℕ) → (before after told_before told_after : Option (List ℕ)) → Type 0
HasToldFault words input before after told_before told_after =
    (fault : Fault) × IsAtFault words input before after fault × AppendsFront told_before told_after (fault_line fault)
