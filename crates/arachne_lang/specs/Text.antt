-- The texts that are accepted, and the faults of the others.
use Rattle.std.specs.Prelude.{ℕ, ◌≡◌, ◌+◌, ◌-◌, ◌^◌, ◌<◌, ◌≤◌, ◌==◌, List, ◌++◌, length, take, count_by, slice_index, ◌⊎◌}
use Rattle.std.specs.List.{AllByRecursion}
use Rattle.arachne_lang.specs.{Spelling.{header, text_of}, declared.text_fault.TextFault.TextFault}
use Rattle.arachne_lang.specs.declared.text_fault.TextFault.TheVariants.{Memory, Header, Syntax, Number as Overflow, Nesting}
use Rattle.arachne_program.specs.Tree.{Tree, Number, Variable, Length, Item, Binary, Choose, Bind, Tally, Hold, Fork, Fold, Sweep, Source}
use Rattle.arachne_program.specs.Nesting.{nesting}

-- each number of an expression is in range
abbrev pub NumbersFit : Tree → Type 0
NumbersFit (Number n) = n < 2 ^ 64
NumbersFit (Variable k) = k < 2 ^ 64
NumbersFit (Length a) = a < 2 ^ 64
NumbersFit (Item a index) = (a < 2 ^ 64) × NumbersFit index
NumbersFit (Binary operation a b) = NumbersFit a × NumbersFit b
NumbersFit (Choose condition first second) = NumbersFit condition × NumbersFit first × NumbersFit second
NumbersFit (Bind bound body) = NumbersFit bound × NumbersFit body
NumbersFit (Tally ledger amount body) = (ledger < 2 ^ 64) × NumbersFit amount × NumbersFit body
NumbersFit (Hold lock body) = (lock < 2 ^ 64) × NumbersFit body
NumbersFit (Fork class child during after) = NumbersFit child × NumbersFit during × NumbersFit after
NumbersFit (Fold from to first body) = NumbersFit from × NumbersFit to × NumbersFit first × NumbersFit body
NumbersFit (Sweep reduction grain from to body) = (grain < 2 ^ 64) × NumbersFit from × NumbersFit to × NumbersFit body

-- each number of a program is in range
pub record IsInRange (program : Source) : Type 0 where
  pub arrays : AllByRecursion (AllByRecursion (λ n. n < 2 ^ 64)) program.arrays
  pub ledgers : program.ledgers < 256
  pub locks : program.locks < 256
  pub root : NumbersFit program.root

-- the programs whose texts are accepted
pub record IsAccepted (program : Source) : Type 0 where
  pub in_range : IsInRange program
  pub nesting : nesting program.root ≤ 64

-- The bytes are a text of the shape: that of some program, with numbers of any size and any nesting.
abbrev pub IsText : List ℕ → Type 0
IsText bytes = (program : Source) × (text_of program ≡ bytes)

-- The bytes are the beginning of a text of the shape.
abbrev pub Begins : List ℕ → Type 0
Begins bytes = (program : Source) × (rest : List ℕ) × (text_of program ≡ bytes ++ rest)

-- The bytes are the beginning of a text of the shape in which each number is in range.
abbrev pub BeginsInRange : List ℕ → Type 0
BeginsInRange bytes = (program : Source) × (rest : List ℕ) × IsInRange program × (text_of program ≡ bytes ++ rest)

abbrev pub StartsWith : List ℕ → List ℕ → Type 0
StartsWith front bytes = (rest : List ℕ) × (bytes ≡ front ++ rest)

-- the number of brackets that are open after the bytes; only expressions have brackets
abbrev pub level : List ℕ → ℕ
level bytes = count_by (λ byte. byte == 40) bytes - count_by (λ byte. byte == 41) bytes

-- The input has this fault. If the header is missing, it has no other.
abbrev pub HasFault : List ℕ → TextFault → Type 0
HasFault bytes Memory = ⊥
-- it does not begin with the header
HasFault bytes (Header at) = (at ≡ 0) × ¬ StartsWith header bytes
-- it is not a text of the shape, and `at` is the length of the longest prefix of it that begins one
HasFault bytes (Syntax at) =
    StartsWith header bytes × ¬ IsText bytes
    × (at ≤ length bytes) × Begins (take at bytes)
    × ((longer : ℕ) → longer ≤ length bytes → Begins (take longer bytes) → longer ≤ at)
-- this byte is the first digit that brings a number over its range
HasFault bytes (Overflow at) =
    StartsWith header bytes × (at < length bytes) × Begins (take (at + 1) bytes)
    × BeginsInRange (take at bytes) × ¬ BeginsInRange (take (at + 1) bytes)
-- this byte is the first opening bracket at level 65
HasFault bytes (Nesting at) =
    StartsWith header bytes × (at < length bytes) × Begins (take (at + 1) bytes)
    × (slice_index bytes at ≡ 40) × (level (take at bytes) ≡ 64)
    × ((shorter : ℕ) → shorter ≤ at → level (take shorter bytes) ≤ 64)

-- the index of the byte at which a fault stands
abbrev pub byte_of : TextFault → ℕ
byte_of Memory = 0
byte_of (Header at) = at
byte_of (Syntax at) = at
byte_of (Overflow at) = at
byte_of (Nesting at) = at

-- The input has this fault, and any other fault of it stands at a later byte.
pub record IsFirstFault (bytes : List ℕ) (fault : TextFault) : Type 0 where
  pub has : HasFault bytes fault
  pub first : (other : TextFault) → HasFault bytes other → (byte_of fault < byte_of other) ⊎ (other ≡ fault)
