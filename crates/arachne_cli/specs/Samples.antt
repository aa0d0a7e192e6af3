-- The texts of samples, and the faults of all other texts.
use Rattle.std.specs.{Prelude.{ℕ, ◌≡◌, ◌+◌, ◌^◌, ◌<◌, ◌≤◌, ◌⊎◌, List, [], ◌∷◌, ◌++◌, length, take}, List.AllByRecursion}
use Rattle.arachne_lang.specs.{Spelling.{line, numeral}, Text.byte_of, declared.text_fault.TextFault.TextFault}
use Rattle.arachne_lang.specs.declared.text_fault.TextFault.TheVariants.{Memory, Header, Syntax, Number as Overflow, Nesting}
use Rattle.arachne_policy.specs.declared.samples.Sample.{Sample}

-- a line of five numbers, separated by one space, with a newline at the end
abbrev pub sample_line : Sample → List ℕ
sample_line s = line (numeral s.cores) (s.runnable ∷ s.scans ∷ s.busy ∷ s.elapsed ∷ [])

-- The text of a list of samples. All of these texts, with numbers of any length, are the shape of a text of samples.
abbrev pub samples_text : List Sample → List ℕ
samples_text [] = []
samples_text (s ∷ samples) = sample_line s ++ samples_text samples

-- each number of a sample fits 64 bits
pub record FitsWords (s : Sample) : Type 0 where
  pub cores : s.cores < 2 ^ 64
  pub runnable : s.runnable < 2 ^ 64
  pub scans : s.scans < 2 ^ 64
  pub busy : s.busy < 2 ^ 64
  pub elapsed : s.elapsed < 2 ^ 64

-- each number of the samples is in range
abbrev pub AreInRange : List Sample → Type 0
AreInRange samples = AllByRecursion FitsWords samples

-- the bytes are a prefix of the text of some samples
abbrev pub Begins : List ℕ → Type 0
Begins bytes = (samples : List Sample) × (rest : List ℕ) × (samples_text samples ≡ bytes ++ rest)

-- the bytes are a prefix of the text of some samples that are in range
abbrev pub BeginsInRange : List ℕ → Type 0
BeginsInRange bytes = (samples : List Sample) × (rest : List ℕ) × AreInRange samples × (samples_text samples ≡ bytes ++ rest)

-- the bytes are the text of some samples
abbrev pub IsText : List ℕ → Type 0
IsText bytes = (samples : List Sample) × (samples_text samples ≡ bytes)

-- The input has this fault. A text of samples has no header that it could lack, and nothing in it nests.
abbrev pub HasFault : List ℕ → TextFault → Type 0
HasFault bytes Memory = ⊥
HasFault bytes (Header at) = ⊥
HasFault bytes (Nesting at) = ⊥
-- it is no text of the shape, and its longest prefix that begins one has this length
HasFault bytes (Syntax at) =
    ¬ IsText bytes × (at ≤ length bytes) × Begins (take at bytes)
    × ((longer : ℕ) → longer ≤ length bytes → Begins (take longer bytes) → longer ≤ at)
-- this byte is the first digit with which a number leaves its range
HasFault bytes (Overflow at) =
    (at < length bytes) × Begins (take (at + 1) bytes) × BeginsInRange (take at bytes) × ¬ BeginsInRange (take (at + 1) bytes)

-- The input has this fault, and no other one at an earlier byte or at the same one.
pub record IsFirstFault (bytes : List ℕ) (fault : TextFault) : Type 0 where
  pub has : HasFault bytes fault
  pub first : (other : TextFault) → HasFault bytes other → (byte_of fault < byte_of other) ⊎ (other ≡ fault)

-- memory was refused
abbrev pub IsOfMemory : TextFault → Type 0
IsOfMemory fault = fault ≡ Memory
