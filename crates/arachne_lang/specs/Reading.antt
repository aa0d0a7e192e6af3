-- Reading the front of a text, as functions on its bytes. Each gives a value and the bytes behind it, or the reason why
-- reading stops there.
use Rattle.std.specs.Prelude.{ℕ, zero, suc, ◌≡◌, ◌+◌, ◌-◌, ◌*◌, ◌^◌, nat_lt, nat_le, ◌==◌, ◌&&◌, if◌then◌else◌, List, [], ◌∷◌, ◌++◌, length, Result, Ok, Err, codes}
use Rattle.arachne_lang.specs.declared.{reading.{stop.Stop.Stop, heads.Head.Head}, text_fault.TextFault.TextFault}
use Rattle.arachne_lang.specs.declared.reading.stop.Stop.TheVariants as stop
use Rattle.arachne_program.specs.declared.program.Class.TheVariants as class
use Rattle.arachne_lang.specs.declared.text_fault.TextFault.TheVariants as fault
use Rattle.arachne_program.specs.declared.program.Operation.TheVariants as operation
use Rattle.arachne_program.specs.declared.program.Reduction.TheVariants as reduction
use Rattle.arachne_lang.specs.declared.reading.heads.Head.TheVariants as head
use Rattle.arachne_program.specs.Tree.{Tree, Number, Variable, Length, Item, Binary, Choose, Bind, Tally, Hold, Fork, Fold, Sweep, Source}

-- the reason why reading stops, with the bytes that are left there
pub data Halt : Type 0 where
  Departs : List ℕ → Halt
  Overflows : List ℕ → Halt
  TooDeep : List ℕ → Halt

-- a value, and the bytes behind it
abbrev pub Reading : Type 0 → Type 0
Reading A = Result (A × List ℕ) Halt

infixl 10 ◌>>=◌
abbrev pub ◌>>=◌ : {A B : Type 0} → Result A Halt → (A → Result B Halt) → Result B Halt
(Ok x) >>= f = f x
(Err e) >>= f = Err e

-- The code stopped for this reason, and reading stops for the same reason at the same bytes, unless memory was refused.
abbrev pub Fails : {B : Type 0} → Stop → Result B Halt → Type 0
Fails stop.Memory read = Unit {0}
Fails (stop.Departs rest) read = read ≡ Err (Departs rest.now)
Fails (stop.Overflows rest) read = read ≡ Err (Overflows rest.now)
Fails (stop.TooDeep rest) read = read ≡ Err (TooDeep rest.now)

abbrev pub Gives : {A B : Type 0} → (A → B) → Result A Stop → Result B Halt → Type 0
Gives view (Ok x) read = read ≡ Ok (view x)
Gives view (Err e) read = Fails e read

-- The code stopped at a byte that breaks the grammar, or at a digit that takes a number out of its range.
abbrev pub IsAtByte : Stop → Type 0
IsAtByte stop.Memory = ⊥
IsAtByte (stop.Departs rest) = Unit {0}
IsAtByte (stop.Overflows rest) = Unit {0}
IsAtByte (stop.TooDeep rest) = ⊥

-- the fault of this text that the code makes of a stop within it
abbrev pub fault_within : List ℕ → Stop → TextFault
fault_within text stop.Memory = fault.Memory
fault_within text (stop.Departs rest) = fault.Syntax (length text - length rest.now)
fault_within text (stop.Overflows rest) = fault.Number (length text - length rest.now)
fault_within text (stop.TooDeep rest) = fault.Nesting (length text - length rest.now)

-- the bytes behind a word
abbrev pub word_at : List ℕ → List ℕ → Result (List ℕ) Halt
word_at [] bytes = Ok bytes
word_at (letter ∷ word) [] = Err (Departs [])
word_at (letter ∷ word) (byte ∷ bytes) = if byte == letter then word_at word bytes else Err (Departs (byte ∷ bytes))

-- The number below a limit whose first digits have the value `value`, and whose other digits are the next bytes.
abbrev pub digits_at : ℕ → ℕ → List ℕ → Reading ℕ
digits_at limit value [] = Ok (value, [])
digits_at limit value (byte ∷ bytes) =
    if nat_le 48 byte && nat_le byte 57
    then (if nat_lt (value * 10 + (byte - 48)) limit then digits_at limit (value * 10 + (byte - 48)) bytes else Err (Overflows (byte ∷ bytes)))
    else Ok (value, byte ∷ bytes)

-- the number at the front, without what follows it; a leading zero is the whole number
abbrev pub figures_at : ℕ → List ℕ → Reading ℕ
figures_at limit [] = Err (Departs [])
figures_at limit (byte ∷ bytes) =
    if byte == 48 then Ok (0, bytes)
    else if nat_le 49 byte && nat_le byte 57 then digits_at limit (byte - 48) bytes
    else Err (Departs (byte ∷ bytes))

-- the number at the front, behind which `end` must stand
unfoldable pub number_at : ℕ → List ℕ → List ℕ → Reading ℕ
number_at limit end bytes = do
  number ← figures_at limit bytes
  rest ← word_at end number.1
  Ok (number.0, rest)

-- the part of a form at the front, behind which `end` must stand; `tree_at` reads an expression
unfoldable pub part_at : (List ℕ → Reading Tree) → List ℕ → List ℕ → Reading Tree
part_at tree_at end bytes = do
  part ← tree_at bytes
  rest ← word_at end part.1
  Ok (part.0, rest)

-- ---- the words of the forms

-- A set of words, each with a value, as a tree of their letters: only the end of one word; words that all go on with
-- these letters; or words that go on behind this letter, and the others.
pub data Words (A : Type 0) : Type 0 where
  End : A → Words A
  Behind : List ℕ → Words A → Words A
  Letter : ℕ → Words A → Words A → Words A

-- the value of the word at the front, and the bytes behind it
abbrev pub words_at : {A : Type 0} → Words A → List ℕ → Reading A
words_at (End value) bytes = Ok (value, bytes)
words_at (Behind letters words) bytes = word_at letters bytes >>= λ rest. words_at words rest
words_at (Letter letter words others) [] = words_at others []
words_at (Letter letter words others) (byte ∷ bytes) = if byte == letter then words_at words bytes else words_at others (byte ∷ bytes)

-- the set of one word
abbrev pub ending : {A : Type 0} → List ℕ → A → Words A
ending letters value = Behind letters (End value)

-- the words that begin with i, behind it: item, if
unfoldable pub words_in_i : Words Head
words_in_i = Letter 116 (ending (codes "em ") head.Item) (ending (codes "f ") head.If)

-- the words that begin with l, behind it: let, len, lt
unfoldable pub words_in_l : Words Head
words_in_l =
    Letter 101 (Letter 116 (ending (codes " ") head.Let) (ending (codes "n ") head.Len))
    (ending (codes "t ") (head.Binary operation.Lt))

-- the words that begin with m, behind it: mul, min, max
unfoldable pub words_in_m : Words Head
words_in_m =
    Letter 117 (ending (codes "l ") (head.Binary operation.Mul))
    (Letter 105 (ending (codes "n ") (head.Binary operation.Min))
    (ending (codes "ax ") (head.Binary operation.Max)))

-- the reductions of a sweep that begin with m, behind it: mul, min, max
unfoldable pub sweeps_in_m : Words Head
sweeps_in_m =
    Letter 117 (ending (codes "l ") (head.Sweep reduction.Product))
    (Letter 105 (ending (codes "n ") (head.Sweep reduction.Least))
    (ending (codes "ax ") (head.Sweep reduction.Greatest)))

-- the reductions of a sweep: add, xor, mul, min, max
unfoldable pub words_of_sweeps : Words Head
words_of_sweeps =
    Letter 97 (ending (codes "dd ") (head.Sweep reduction.Sum))
    (Letter 120 (ending (codes "or ") (head.Sweep reduction.Parity))
    (Behind (codes "m") sweeps_in_m))

-- the words that begin with s, behind it: sub, sweep
unfoldable pub words_in_s : Words Head
words_in_s = Letter 117 (ending (codes "b ") (head.Binary operation.Sub)) (Behind (codes "weep ") words_of_sweeps)

-- the words that begin with f, behind it: fold, fork
unfoldable pub words_in_f : Words Head
words_in_f =
    Behind (codes "o")
    (Letter 108 (ending (codes "d ") head.Fold)
    (Behind (codes "rk ")
    (Letter 110 (ending (codes " ") (head.Fork class.Normal)) (ending (codes "x ") (head.Fork class.Exclusive)))))

-- all words of forms, by their first letters: a, e, f, h, i, l, m, n, s, t, v, x
unfoldable pub form_words : Words Head
form_words =
    Letter 97 (ending (codes "dd ") (head.Binary operation.Add))
    (Letter 101 (ending (codes "q ") (head.Binary operation.Eq))
    (Letter 102 words_in_f
    (Letter 104 (ending (codes "old ") head.Hold)
    (Letter 105 words_in_i
    (Letter 108 words_in_l
    (Letter 109 words_in_m
    (Letter 110 (ending (codes "um ") head.Num)
    (Letter 115 words_in_s
    (Letter 116 (ending (codes "ally ") head.Tally)
    (Letter 118 (ending (codes "ar ") head.Var)
    (ending (codes "xor ") (head.Binary operation.Xor))))))))))))

-- ---- expressions

-- the rest of a form behind its word, with the closing bracket
unfoldable pub behind_word_at : (List ℕ → Reading Tree) → Head → List ℕ → Reading Tree
behind_word_at tree_at head.Num bytes = do
  number ← number_at (2 ^ 64) (codes ")") bytes
  Ok (Number number.0, number.1)
behind_word_at tree_at head.Var bytes = do
  place ← number_at (2 ^ 64) (codes ")") bytes
  Ok (Variable place.0, place.1)
behind_word_at tree_at head.Len bytes = do
  array ← number_at (2 ^ 64) (codes ")") bytes
  Ok (Length array.0, array.1)
behind_word_at tree_at head.Item bytes = do
  array ← number_at (2 ^ 64) (codes " ") bytes
  index ← part_at tree_at (codes ")") array.1
  Ok (Item array.0 index.0, index.1)
behind_word_at tree_at (head.Binary operation) bytes = do
  a ← part_at tree_at (codes " ") bytes
  b ← part_at tree_at (codes ")") a.1
  Ok (Binary operation a.0 b.0, b.1)
behind_word_at tree_at head.If bytes = do
  condition ← part_at tree_at (codes " ") bytes
  first ← part_at tree_at (codes " ") condition.1
  second ← part_at tree_at (codes ")") first.1
  Ok (Choose condition.0 first.0 second.0, second.1)
behind_word_at tree_at head.Let bytes = do
  bound ← part_at tree_at (codes " ") bytes
  body ← part_at tree_at (codes ")") bound.1
  Ok (Bind bound.0 body.0, body.1)
behind_word_at tree_at head.Tally bytes = do
  ledger ← number_at (2 ^ 64) (codes " ") bytes
  amount ← part_at tree_at (codes " ") ledger.1
  body ← part_at tree_at (codes ")") amount.1
  Ok (Tally ledger.0 amount.0 body.0, body.1)
behind_word_at tree_at head.Hold bytes = do
  lock ← number_at (2 ^ 64) (codes " ") bytes
  body ← part_at tree_at (codes ")") lock.1
  Ok (Hold lock.0 body.0, body.1)
behind_word_at tree_at (head.Fork class) bytes = do
  child ← part_at tree_at (codes " ") bytes
  during ← part_at tree_at (codes " ") child.1
  after ← part_at tree_at (codes ")") during.1
  Ok (Fork class child.0 during.0 after.0, after.1)
behind_word_at tree_at head.Fold bytes = do
  from ← part_at tree_at (codes " ") bytes
  to ← part_at tree_at (codes " ") from.1
  first ← part_at tree_at (codes " ") to.1
  body ← part_at tree_at (codes ")") first.1
  Ok (Fold from.0 to.0 first.0 body.0, body.1)
behind_word_at tree_at (head.Sweep reduction) bytes = do
  grain ← number_at (2 ^ 64) (codes " ") bytes
  from ← part_at tree_at (codes " ") grain.1
  to ← part_at tree_at (codes " ") from.1
  body ← part_at tree_at (codes ")") to.1
  Ok (Sweep reduction grain.0 from.0 to.0 body.0, body.1)

-- the rest of a form behind its opening bracket, with the closing one
unfoldable pub form_at : (List ℕ → Reading Tree) → List ℕ → Reading Tree
form_at tree_at bytes = do
  head ← words_at form_words bytes
  behind_word_at tree_at head.0 head.1

-- the value that `inner_at` reads behind the opening bracket, which must be at the front
abbrev pub opened : (List ℕ → Reading Tree) → List ℕ → Reading Tree
opened inner_at [] = Err (Departs [])
opened inner_at (byte ∷ bytes) = if byte == 40 then inner_at bytes else Err (Departs (byte ∷ bytes))

-- the expression at the front, of at most this many levels
unfoldable pub expression_at : ℕ → List ℕ → Reading Tree
expression_at zero = opened (λ bytes. Err (TooDeep (40 ∷ bytes)))
expression_at (suc levels) = opened (form_at (expression_at levels))

-- ---- lines

-- The items of an array, of which `items` were read before, up to the newline. As many turns as there are bytes, and
-- one more, are enough.
abbrev pub items_within : ℕ → List ℕ → List ℕ → Reading (List ℕ)
items_within zero items bytes = Err (Departs bytes)
items_within (suc turns) items [] = Err (Departs [])
items_within (suc turns) items (byte ∷ bytes) =
    if byte == 32 then (figures_at (2 ^ 64) bytes >>= λ item. items_within turns (items ++ item.0 ∷ []) item.1)
    else if byte == 10 then Ok (items, bytes)
    else Err (Departs (byte ∷ bytes))

unfoldable pub items_at : List ℕ → List ℕ → Reading (List ℕ)
items_at items bytes = items_within (suc (length bytes)) items bytes

-- The arrays of the array lines, of which `arrays` were read before.
abbrev pub arrays_within : ℕ → List (List ℕ) → List ℕ → Reading (List (List ℕ))
arrays_within zero arrays bytes = Err (Departs bytes)
arrays_within (suc turns) arrays [] = Ok (arrays, [])
arrays_within (suc turns) arrays (byte ∷ bytes) =
    if byte == 97
    then (word_at (codes "array") (byte ∷ bytes) >>= λ rest. items_at [] rest >>= λ items. arrays_within turns (arrays ++ items.0 ∷ []) items.1)
    else Ok (arrays, byte ∷ bytes)

unfoldable pub arrays_at : List (List ℕ) → List ℕ → Reading (List (List ℕ))
arrays_at arrays bytes = arrays_within (suc (length bytes)) arrays bytes

-- the program with these arrays whose other lines are at the front
unfoldable pub lines_at : List (List ℕ) → List ℕ → Reading Source
lines_at arrays bytes = do
  rest ← word_at (codes "ledgers ") bytes
  ledgers ← number_at 256 (10 ∷ []) rest
  rest ← word_at (codes "locks ") ledgers.1
  locks ← number_at 256 (10 ∷ []) rest
  root ← expression_at 64 locks.1
  rest ← word_at (10 ∷ []) root.1
  Ok (record { arrays = arrays; ledgers = ledgers.0; locks = locks.0; root = root.0 }, rest)

-- the program whose text without the header is at the front, up to its last newline
unfoldable pub source_at : List ℕ → Reading Source
source_at bytes = do
  arrays ← arrays_at [] bytes
  lines_at arrays.0 arrays.1

-- the program, if no bytes are left
abbrev pub ended : Source → List ℕ → Result Source Halt
ended program [] = Ok program
ended program (byte ∷ bytes) = Err (Departs (byte ∷ bytes))

-- the program whose text without the header these bytes are
unfoldable pub program_at : List ℕ → Result Source Halt
program_at bytes = do
  read ← source_at bytes
  ended read.0 read.1
