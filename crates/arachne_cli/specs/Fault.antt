-- The line that is printed for a fault.
use Rattle.std.specs.Prelude.{ℕ, List, [], ◌∷◌, ◌++◌, codes, decimal}
use Rattle.arachne_lang.specs.declared.text_fault.TextFault.TheVariants as text
use Rattle.arachne_program.specs.declared.check_fault.CheckFault.TheVariants as check
use Rattle.arachne_cli.specs.declared.fault.{Place.Place, FaultLine.FaultLine, Fault.Fault}
use Rattle.arachne_cli.specs.declared.fault.Fault.TheVariants.{InText, InProgram, BadSample, NoOrder, Memory, TooLong, Read, Write}
use Rattle.arachne_cli.specs.declared.fault.Place.TheVariants as place

-- the number of a fault
abbrev pub fault_number : Fault → ℕ
fault_number (InText (text.Header byte)) = 1
fault_number (InText (text.Syntax byte)) = 2
fault_number (InText (text.Number byte)) = 3
fault_number (InText (text.Nesting byte)) = 4
fault_number (InText text.Memory) = 30
fault_number (InProgram check.Nesting) = 4
fault_number (InProgram (check.NoArray node)) = 5
fault_number (InProgram (check.NoLedger node)) = 6
fault_number (InProgram (check.NoLock node)) = 7
fault_number (InProgram (check.Unbound node)) = 8
fault_number (InProgram (check.WithinHold node)) = 9
fault_number (InProgram check.OverLimit) = 10
fault_number (InProgram (check.NoGrain node)) = 11
fault_number (BadSample line) = 12
fault_number (NoOrder index) = 26
fault_number Memory = 30
fault_number TooLong = 36
fault_number Read = 37
fault_number Write = 38

-- the place of a fault
abbrev pub fault_place : Fault → Place
fault_place (InText (text.Header byte)) = place.At byte
fault_place (InText (text.Syntax byte)) = place.At byte
fault_place (InText (text.Number byte)) = place.At byte
fault_place (InText (text.Nesting byte)) = place.At byte
fault_place (InProgram (check.NoArray node)) = place.Node node
fault_place (InProgram (check.NoLedger node)) = place.Node node
fault_place (InProgram (check.NoLock node)) = place.Node node
fault_place (InProgram (check.Unbound node)) = place.Node node
fault_place (InProgram (check.WithinHold node)) = place.Node node
fault_place (InProgram (check.NoGrain node)) = place.Node node
fault_place (BadSample line) = place.Line line
fault_place (NoOrder index) = place.Order index
fault_place _ = place.Nowhere

abbrev pub line_of : Fault → FaultLine
line_of fault = record { number = fault_number fault; place = fault_place fault }

-- the part of a fault's line that follows its number
abbrev pub place_words : Place → List ℕ
place_words place.Nowhere = []
place_words (place.At byte) = codes " at " ++ decimal byte
place_words (place.Node node) = codes " node " ++ decimal node
place_words (place.Line line) = codes " line " ++ decimal line
place_words (place.Order index) = codes " order " ++ decimal index

abbrev pub line_words : FaultLine → List ℕ
line_words line = codes "fault " ++ decimal line.number ++ place_words line.place

-- the bytes of the line
abbrev pub line_text : FaultLine → List ℕ
line_text line = line_words line ++ 10 ∷ []

abbrev pub fault_line : Fault → List ℕ
fault_line fault = line_text (line_of fault)
