-- The definitions on programs whose results were found by hand.
use Rattle.std.proofs.Common.{◌≡◌, ℕ, ◌-◌, ◌^◌, List, [], ◌∷◌, refl, map, ◌++◌, length, codes, Some, Ok, Err}
use Rattle.arachne_program.specs.declared.check_fault.CheckFault.TheVariants as fault
use Rattle.arachne_lang.specs.Spelling.{header, text_of}
use Rattle.arachne_program.specs.{Checked.verdict_of, declared.program.Class.TheVariants.{Normal, Exclusive}}
use Rattle.arachne_program.specs.declared.{meaning.Line.Line, program.Operation.TheVariants.{Add, Sub}}
use Rattle.arachne_program.specs.declared.program.Reduction.TheVariants.{Sum, Product, Least}
use Rattle.arachne_program.specs.Tree.{Tree, Number, Variable, Length, Item, Binary, Tally, Hold, Fork, Fold, Sweep, Source}
use Rattle.arachne_program.specs.{Effects.{Evaluate, Reduce}, Meaning.{meaning_of, child_of}}

-- a program with no arrays
plain : ℕ → ℕ → Tree → Source
plain ledgers locks root = record { arrays = []; ledgers = ledgers; locks = locks; root = root }

thread : List ℕ → List ℕ → Line
thread name holds = record { name = name; holds = holds }

sum_that_wraps : meaning_of (plain 0 0 (Binary Add (Number (2 ^ 64 - 1)) (Number 1))) ≡ record { value = 0; totals = []; threads = thread [] [] ∷ [] }
unfolding plain thread
sum_that_wraps = refl

fork_and_difference : meaning_of (plain 0 0 (Fork Normal (Number 2) (Number 3) (Binary Sub (Variable 0) (Variable 1))))
    ≡ record { value = 2 ^ 64 - 1; totals = []; threads = thread [] [] ∷ thread (0 ∷ []) [] ∷ [] }
unfolding plain thread
fork_and_difference = refl

sweep_by_halves : meaning_of (plain 0 0 (Sweep Sum 2 (Number 0) (Number 8) (Variable 0)))
    ≡ record { value = 28; totals = []; threads = thread [] [] ∷ thread (1 ∷ []) [] ∷ thread (0 ∷ []) [] ∷ thread (0 ∷ 0 ∷ []) [] ∷ [] }
unfolding plain thread
sweep_by_halves = refl

empty_sweep : meaning_of (plain 0 0 (Sweep Least 1 (Number 5) (Number 5) (Variable 0))) ≡ record { value = 2 ^ 64 - 1; totals = []; threads = thread [] [] ∷ [] }
unfolding plain thread
empty_sweep = refl

tallies_and_holds : meaning_of (plain 1 1 (Sweep Sum 1 (Number 0) (Number 8) (Hold 0 (Tally 0 (Number 5) (Number 1)))))
    ≡ record {
      value = 8;
      totals = 40 ∷ [];
      threads = map (λ name. thread name (1 ∷ []))
          ([] ∷ (2 ∷ []) ∷ (1 ∷ []) ∷ (1 ∷ 0 ∷ []) ∷ (0 ∷ []) ∷ (0 ∷ 1 ∷ []) ∷ (0 ∷ 0 ∷ []) ∷ (0 ∷ 0 ∷ 0 ∷ []) ∷ []);
    }
unfolding plain thread
tallies_and_holds = refl

product_sweep : meaning_of (plain 0 0 (Sweep Product 1 (Number 1) (Number 6) (Variable 0)))
    ≡ record { value = 120; totals = []; threads = map (λ name. thread name []) ([] ∷ (2 ∷ []) ∷ (1 ∷ []) ∷ (0 ∷ []) ∷ (0 ∷ 0 ∷ []) ∷ []) }
unfolding plain thread
product_sweep = refl

fork_of_its_class : child_of (plain 0 0 (Fork Exclusive (Number 2) (Number 3) (Variable 0))) [] 0 ≡ Some (record { class = Exclusive; task = Evaluate (Number 2) [] })
unfolding plain
fork_of_its_class = refl

split_is_normal : child_of (plain 0 0 (Sweep Sum 2 (Number 0) (Number 8) (Variable 0))) (0 ∷ []) 0
    ≡ Some (record { class = Normal; task = Reduce Sum 2 (Variable 0) [] 0 2 })
unfolding plain
split_is_normal = refl

fold_of_a_range : meaning_of (plain 0 0 (Fold (Number 1) (Number 4) (Number 0) (Binary Add (Variable 0) (Variable 1)))) ≡ record { value = 6; totals = []; threads = thread [] [] ∷ [] }
unfolding plain thread
fold_of_a_range = refl

array_program : Source
array_program = record {
  arrays = (3 ∷ 1 ∷ 4 ∷ []) ∷ [];
  ledgers = 0;
  locks = 0;
  root = Binary Add (Item 0 (Number 2)) (Binary Add (Item 0 (Number 9)) (Length 0));
}

items_of_an_array : meaning_of array_program ≡ record { value = 7; totals = []; threads = thread [] [] ∷ [] }
unfolding array_program thread
items_of_an_array = refl

-- the text of the program with an array, line by line
text_with_an_array : text_of array_program ≡
    codes "arachne 1" ++ 10 ∷ [] ++ codes "array 3 1 4" ++ 10 ∷ [] ++ codes "ledgers 0" ++ 10 ∷ [] ++ codes "locks 0" ++ 10 ∷ []
    ++ codes "(add (item 0 (num 2)) (add (item 0 (num 9)) (len 0)))" ++ 10 ∷ []
unfolding array_program
text_with_an_array = refl

-- without arrays the expression begins at byte 28, and each further opening bracket is one level deeper
text_of_a_fork : text_of (plain 0 0 (Fork Normal (Number 20) (Number 3) (Binary Add (Variable 0) (Variable 1)))) ≡
    header ++ codes "ledgers 0" ++ 10 ∷ [] ++ codes "locks 0" ++ 10 ∷ [] ++ codes "(fork n (num 20) (num 3) (add (var 0) (var 1)))" ++ 10 ∷ []
unfolding plain
text_of_a_fork = refl

header_lines : length (header ++ codes "ledgers 0" ++ 10 ∷ [] ++ codes "locks 0" ++ 10 ∷ []) ≡ 28
header_lines = refl

-- the checks of programs whose verdicts were found by hand
hold_in_hold : verdict_of (plain 0 1 (Hold 0 (Hold 5 (Number 1)))) ≡ Err (fault.WithinHold 1)
unfolding plain
hold_in_hold = refl

fork_in_hold : verdict_of (plain 0 1 (Hold 0 (Fork Normal (Number 1) (Number 2) (Number 3)))) ≡ Err (fault.WithinHold 1)
unfolding plain
fork_in_hold = refl

unbound_variable : verdict_of (plain 0 0 (Binary Add (Variable 0) (Number 1))) ≡ Err (fault.Unbound 1)
unfolding plain
unbound_variable = refl

too_many_locks : verdict_of (plain 0 17 (Number 7)) ≡ Err fault.OverLimit
unfolding plain
too_many_locks = refl

grain_of_zero : verdict_of (plain 0 0 (Sweep Sum 0 (Number 0) (Number 1) (Number 2))) ≡ Err (fault.NoGrain 0)
unfolding plain
grain_of_zero = refl

no_such_array : verdict_of (plain 0 0 (Length 0)) ≡ Err (fault.NoArray 0)
unfolding plain
no_such_array = refl

no_such_ledger : verdict_of (plain 0 0 (Tally 0 (Number 1) (Number 1))) ≡ Err (fault.NoLedger 0)
unfolding plain
no_such_ledger = refl

no_such_lock : verdict_of (plain 0 0 (Hold 0 (Number 1))) ≡ Err (fault.NoLock 0)
unfolding plain
no_such_lock = refl

after_of_a_fork_has_two_more : verdict_of (plain 0 0 (Fork Normal (Number 2) (Number 3) (Binary Add (Variable 0) (Variable 1)))) ≡ Ok tt
unfolding plain
after_of_a_fork_has_two_more = refl
