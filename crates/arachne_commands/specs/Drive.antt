-- The effect of a run of the program on the streams that it reads and writes.
use Rattle.std.specs.Prelude.{ℕ, ◌≡◌, ◌≢◌, List, Option, Some, None, IfSome, IsSome}
use Rattle.std.specs.Io.KnownBytes.{Appends, Keeps}
use Rattle.arachne_lang.specs.Tree.{Source}
use Rattle.arachne_run.specs.declared.fault.RunFault.{RunFault}
use Rattle.arachne_cli.specs.declared.command_line.Request.{Request}
use Rattle.arachne_cli.specs.declared.command_line.Request.TheVariants.{Run, Serial}
use Rattle.arachne_cli.specs.declared.command_line.RunSettings.{RunSettings}
use Rattle.arachne_cli.specs.declared.command_line.SerialRequest.TheVariants.{Check}
use Rattle.arachne_cli.specs.declared.fault.Fault.TheVariants.{Memory, NoOrder, Write}
use Rattle.arachne_cli.specs.CommandLine.{asked_by, no_order_in}
use Rattle.arachne_cli.specs.Fault as cli
use Rattle.arachne_cli.specs.Answers.{IsPrintedMeaning, IsProgramOf}
use Rattle.arachne_cli.specs.Answers as serial
use Rattle.arachne_cli.specs.Ends.{AppendsFront}
use Rattle.arachne_commands.specs.Running.{IsRefusal, MayRun}
use Rattle.arachne_commands.specs.declared.fault.Fault.{Fault}
use Rattle.arachne_commands.specs.declared.fault.Fault.TheVariants.{Cli, InRun}
use Rattle.arachne_commands.specs.Fault.{fault_line}

-- The output for this request and this input. That of `run`, whose settings must allow a run, is that of `eval`.
abbrev pub IsAnswer : Request → List ℕ → List ℕ → Type 0
IsAnswer (Run settings) input output = MayRun settings × IsPrintedMeaning settings.names input output
IsAnswer (Serial request) input output = serial.IsAnswer request input output

-- the reason why a run of the input's program has no report
abbrev pub IsRunFault : RunSettings → List ℕ → RunFault → Type 0
IsRunFault settings input fault = (source : Source) × IsProgramOf input source × IsRefusal settings fault

-- The input is a cause of this fault of the request. The text for `run` can have the faults that `check` reports.
abbrev pub IsCause : Request → List ℕ → Fault → Type 0
IsCause (Run settings) input (Cli fault) = serial.IsCause Check input fault
IsCause (Run settings) input (InRun fault) = IsRunFault settings input fault
IsCause (Serial request) input (Cli fault) = serial.IsCause request input fault
IsCause (Serial request) input (InRun fault) = ⊥

-- If the arguments make no request, the only fault is that memory was refused.
abbrev pub IsCauseFor : Option Request → List ℕ → Fault → Type 0
IsCauseFor None input fault = fault ≡ Cli Memory
IsCauseFor (Some request) input fault = IsCause request input fault

-- If the input is known, the arguments make a request, and the output grows by the answer to the request.
abbrev pub IsAnswered : List (List ℕ) → Option (List ℕ) → Option (List ℕ) → Option (List ℕ) → Type 0
IsAnswered words input before after =
    IfSome input (λ known. (request : Request) × (asked_by words ≡ Some request) × (text : List ℕ) × IsAnswer request known text × Appends before after text)

-- Like `IsAnswered`, but the output grows only by a prefix of the answer.
abbrev pub IsCutShort : List (List ℕ) → Option (List ℕ) → Option (List ℕ) → Option (List ℕ) → Type 0
IsCutShort words input before after =
    IfSome input (λ known. (request : Request) × (asked_by words ≡ Some request) × (text : List ℕ) × IsAnswer request known text × AppendsFront before after text)

-- This fault has a cause. The output is unchanged or, if writing failed, has grown by a prefix of the answer. Unless
-- memory was refused, the arguments make a request.
abbrev pub IsAtFault : List (List ℕ) → Option (List ℕ) → Option (List ℕ) → Option (List ℕ) → Fault → Type 0
IsAtFault words input before after fault =
    IfSome input (λ known. IsCauseFor (asked_by words) known fault)
    × ((fault ≢ Cli Write) → Keeps before after)
    × (fault ≡ Cli Write → IsCutShort words input before after)
    × ((fault ≢ Cli Memory) → IsSome (asked_by words))

-- There is a fault as in `IsAtFault`, and the faults stream has grown by the fault's line or a prefix of the line.
abbrev pub HasToldFault : List (List ℕ) → Option (List ℕ) → (before after told_before told_after : Option (List ℕ)) → Type 0
HasToldFault words input before after told_before told_after =
    (fault : Fault) × IsAtFault words input before after fault × AppendsFront told_before told_after (fault_line fault)

-- If the arguments of `run` have a malformed order, the faults stream has grown by the line of the first one, or a
-- prefix of the line.
abbrev pub HasToldNoOrder : List (List ℕ) → Option (List ℕ) → Option (List ℕ) → Type 0
HasToldNoOrder words before after = (index : ℕ) → no_order_in words ≡ Some index → AppendsFront before after (cli.fault_line (NoOrder index))
