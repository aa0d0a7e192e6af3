-- The output of the commands that need only one kernel thread, and the causes of their faults.
use Rattle.std.specs.Prelude.{ℕ, Bool, ◌≡◌, ◌<◌, ◌≤◌, List, [], ◌∷◌, ◌++◌, codes, length, Err, ⊤}
use Rattle.arachne_lang.specs.{declared.text_fault.TextFault.TextFault, Tree.Source, Spelling.text_of}
use Rattle.arachne_lang.specs.{Text.{IsAccepted, IsFirstFault}, Checked.{IsChecked, verdict_of}, Meaning.meaning_of}
use Rattle.arachne_lang.specs.declared.text_fault.TextFault.TheVariants as text
use Rattle.arachne_program.specs.declared.check_fault.CheckFault.{CheckFault}
use Rattle.arachne_policy.specs.declared.samples.Sample.{Sample}
use Rattle.arachne_cli.specs.declared.command_line.SerialRequest.{SerialRequest, TheVariants.{Eval, Check, Policy}}
use Rattle.arachne_cli.specs.{declared.judging.Settings.Settings, Samples.{AreInRange, samples_text}, Output.output_of}
use Rattle.arachne_cli.specs.{Judging.{AreGood, IsFirstBadLine, advice_lines}, declared.fault.Fault.Fault}
use Rattle.arachne_cli.specs.declared.fault.Fault.TheVariants.{InText, InProgram, BadSample, NoOrder, Memory, TooLong, Read, Write}
use Rattle.arachne_cli.specs.Samples as samples

-- the maximum number of bytes of an input
abbrev pub input_limit : ℕ
input_limit = 33554432

-- The input is the text of this program, which may run.
pub record IsProgramOf (input : List ℕ) (source : Source) : Type 0 where
  pub within : length input ≤ input_limit
  pub accepted : IsAccepted source
  pub spelled : text_of source ≡ input
  pub checked : IsChecked source

-- The input is the text of these samples, which can be judged with these settings.
pub record AreSamplesOf (input : List ℕ) (settings : Settings) (judged : List Sample) : Type 0 where
  pub within : length input ≤ input_limit
  pub in_range : AreInRange judged
  pub spelled : samples_text judged ≡ input
  pub good : AreGood settings judged

-- the output for the meaning of the input's program
abbrev pub IsPrintedMeaning : Bool → List ℕ → List ℕ → Type 0
IsPrintedMeaning names input output = (source : Source) × IsProgramOf input source × (output ≡ output_of names (meaning_of source))

-- the output for this request and this input
abbrev pub IsAnswer : SerialRequest → List ℕ → List ℕ → Type 0
IsAnswer (Eval names) input output = IsPrintedMeaning names input output
IsAnswer Check input output = (source : Source) × IsProgramOf input source × (output ≡ codes "ok" ++ 10 ∷ [])
IsAnswer (Policy settings) input output = (judged : List Sample) × AreSamplesOf input settings judged × (output ≡ advice_lines settings judged)

-- the first fault of the input, which is the text of a program or of samples
abbrev pub IsTextFault : SerialRequest → List ℕ → TextFault → Type 0
IsTextFault (Eval names) input fault = IsFirstFault input fault
IsTextFault Check input fault = IsFirstFault input fault
IsTextFault (Policy settings) input fault = samples.IsFirstFault input fault

-- the fault of the input's program
abbrev pub IsProgramFault : SerialRequest → List ℕ → CheckFault → Type 0
IsProgramFault (Eval names) input fault = (source : Source) × IsAccepted source × (text_of source ≡ input) × (verdict_of source ≡ Err fault)
IsProgramFault Check input fault = (source : Source) × IsAccepted source × (text_of source ≡ input) × (verdict_of source ≡ Err fault)
IsProgramFault (Policy settings) input fault = ⊥

-- the line of the first bad sample of the input
abbrev pub IsSampleFault : SerialRequest → List ℕ → ℕ → Type 0
IsSampleFault (Eval names) input line = ⊥
IsSampleFault Check input line = ⊥
IsSampleFault (Policy settings) input line =
    (judged : List Sample) × AreInRange judged × (samples_text judged ≡ input) × IsFirstBadLine settings judged line

-- The input is a cause of this fault of the request. Refused memory and streams that fail need no cause in the input.
abbrev pub IsCause : SerialRequest → List ℕ → Fault → Type 0
IsCause request input (InText text.Memory) = ⊤
IsCause request input (InText fault) = (length input ≤ input_limit) × IsTextFault request input fault
IsCause request input (InProgram fault) = (length input ≤ input_limit) × IsProgramFault request input fault
IsCause request input (BadSample line) = (length input ≤ input_limit) × IsSampleFault request input line
IsCause request input (NoOrder index) = ⊥
IsCause request input TooLong = input_limit < length input
IsCause request input Memory = ⊤
IsCause request input Read = ⊤
IsCause request input Write = ⊤
