-- The form in which the numbers of a thread's name are stored.
use Rattle.std.specs.{Prelude.{ℕ, ◌<◌, ◌≤◌, ◌^◌, ◌⊎◌, List, length}, List.All}
use Rattle.arachne_program.specs.declared.name.Forks.{Forks, TheVariants.{Bytes, Words, Heap}}

-- the name has at most 30 numbers, each below 256
abbrev pub FitsBytes : List ℕ → Type 0
FitsBytes name = (length name ≤ 30) × All (λ number. number < 256) name

-- the name has at most 6 numbers, each below 2^32
abbrev pub FitsWords : List ℕ → Type 0
FitsWords name = (length name ≤ 6) × All (λ number. number < 2 ^ 32) name

-- the name takes no memory beside its own 32 bytes
abbrev pub FitsInline : List ℕ → Type 0
FitsInline name = FitsBytes name ⊎ FitsWords name

-- the numbers that are stored
abbrev pub numbers : Forks → List ℕ
numbers (Bytes list) = list
numbers (Words list) = list
numbers (Heap list) = list.items

-- the numbers are stored in the first of these forms that they fit into
abbrev pub IsKeptShort : Forks → Type 0
IsKeptShort (Bytes list) = FitsBytes list
IsKeptShort (Words list) = (¬ FitsBytes list) × FitsWords list
IsKeptShort (Heap list) = (¬ FitsBytes list.items) × (¬ FitsWords list.items)
