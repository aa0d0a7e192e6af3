-- The text of a program. Each program has one.
use Rattle.std.specs.Prelude.{ℕ, zero, suc, ◌+◌, ◌/◌, ◌%◌, nat_lt, if◌then◌else◌, List, [], ◌∷◌, ◌++◌, map, codes}
use Rattle.std.specs.List.{flat_map}
use Rattle.arachne_program.specs.declared.program.Class.{Class, TheVariants.{Normal, Exclusive}}
use Rattle.arachne_program.specs.declared.program.{Operation.Operation, Reduction.Reduction}
use Rattle.arachne_program.specs.declared.program.Operation.TheVariants.{Add, Sub, Mul, Min, Max, Xor, Lt, Eq}
use Rattle.arachne_program.specs.declared.program.Reduction.TheVariants.{Sum, Product, Parity, Least, Greatest}
use Rattle.arachne_program.specs.Tree.{Tree, Number, Variable, Length, Item, Binary, Choose, Bind, Tally, Hold, Fork, Fold, Sweep, Source}

-- The digits of a number, without leading zeros. A fuel above the number is enough.
abbrev pub digits_within : ℕ → ℕ → List ℕ
digits_within zero n = []
digits_within (suc fuel) n = if nat_lt n 10 then (48 + n) ∷ [] else digits_within fuel (n / 10) ++ (48 + n % 10) ∷ []

abbrev pub numeral : ℕ → List ℕ
numeral n = digits_within (n + 1) n

-- the words, each after a space
abbrev pub after_spaces : List (List ℕ) → List ℕ
after_spaces [] = []
after_spaces (word ∷ words) = 32 ∷ word ++ after_spaces words

-- a form in brackets: its word, and its parts
abbrev pub bracketed : List ℕ → List (List ℕ) → List ℕ
bracketed word parts = 40 ∷ word ++ after_spaces parts ++ 41 ∷ []

-- a line: its word, and the numbers after it
abbrev pub line : List ℕ → List ℕ → List ℕ
line word numbers = word ++ after_spaces (map numeral numbers) ++ 10 ∷ []

abbrev pub operation_word : Operation → List ℕ
operation_word Add = codes "add"
operation_word Sub = codes "sub"
operation_word Mul = codes "mul"
operation_word Min = codes "min"
operation_word Max = codes "max"
operation_word Xor = codes "xor"
operation_word Lt = codes "lt"
operation_word Eq = codes "eq"

abbrev pub reduction_word : Reduction → List ℕ
reduction_word Sum = codes "add"
reduction_word Product = codes "mul"
reduction_word Parity = codes "xor"
reduction_word Least = codes "min"
reduction_word Greatest = codes "max"

abbrev pub class_word : Class → List ℕ
class_word Normal = codes "n"
class_word Exclusive = codes "x"

abbrev pub spelling : Tree → List ℕ
spelling (Number n) = bracketed (codes "num") (numeral n ∷ [])
spelling (Variable k) = bracketed (codes "var") (numeral k ∷ [])
spelling (Length a) = bracketed (codes "len") (numeral a ∷ [])
spelling (Item a index) = bracketed (codes "item") (numeral a ∷ spelling index ∷ [])
spelling (Binary operation a b) = bracketed (operation_word operation) (spelling a ∷ spelling b ∷ [])
spelling (Choose condition first second) = bracketed (codes "if") (spelling condition ∷ spelling first ∷ spelling second ∷ [])
spelling (Bind bound body) = bracketed (codes "let") (spelling bound ∷ spelling body ∷ [])
spelling (Tally ledger amount body) = bracketed (codes "tally") (numeral ledger ∷ spelling amount ∷ spelling body ∷ [])
spelling (Hold lock body) = bracketed (codes "hold") (numeral lock ∷ spelling body ∷ [])
spelling (Fork class child during after) =
    bracketed (codes "fork") (class_word class ∷ spelling child ∷ spelling during ∷ spelling after ∷ [])
spelling (Fold from to first body) = bracketed (codes "fold") (spelling from ∷ spelling to ∷ spelling first ∷ spelling body ∷ [])
spelling (Sweep reduction grain from to body) =
    bracketed (codes "sweep") (reduction_word reduction ∷ numeral grain ∷ spelling from ∷ spelling to ∷ spelling body ∷ [])

abbrev pub header : List ℕ
header = line (codes "arachne") (1 ∷ [])

abbrev pub text_of : Source → List ℕ
text_of program =
    header
    ++ flat_map (line (codes "array")) program.arrays
    ++ line (codes "ledgers") (program.ledgers ∷ [])
    ++ line (codes "locks") (program.locks ∷ [])
    ++ spelling program.root ++ 10 ∷ []
