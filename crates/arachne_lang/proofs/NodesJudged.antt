-- The nodes of an expression are checked part by part.
use Rattle.std.proofs.Common.{◌≡◌, ℕ, ◌+◌, ◌<◌, ◌≤◌, List, [], ◌∷◌, ◌++◌, length, take, drop, refl, ap, sym, ◌∙◌, arith, length-append, Bool, true, false, Vec, Global, map, sum_by, nat_lt, Option, None, Some, Result, Ok, Err}
use Rattle.std.{specs.List.fold, proofs.lemmas.{List.length-map, Bool.Decides.nat_tests}}
use Rattle.arachne_program.specs.Checked.{NodeFault, node_faults, first_fault, node_count, is_within_limits, verdict_of}
use Rattle.arachne_program.specs.{Nesting.nesting, Program.{tree_of, source_of}}
use Rattle.arachne_program.specs.Tree.{Tree, Number, Item, Binary, Choose, Bind, Tally, Hold, Fork, Fold, Sweep, Source}
use Rattle.arachne_program.specs.declared.{check_fault.CheckFault.CheckFault, program.Program.Program}
use Rattle.arachne_program.specs.declared.check_fault.CheckFault.TheVariants as fault
use Rattle.arachne_lang.specs.Judgement.{judged, KeepsLimits}

pub nesting_positive : (tree : Tree) → 0 < nesting tree
nesting_positive (Number n) = omega arith
nesting_positive _ = omega arith

pub node_count_positive : (tree : Tree) → 0 < node_count tree
node_count_positive (Number n) = omega arith
node_count_positive _ = omega arith

pub length-node_faults : (program : Source) (within : Bool) (bound : ℕ) (tree : Tree) → length (node_faults program within bound tree) ≡ node_count tree
length-node_faults program within bound (Item a index) = simp (length-node_faults program within bound index) (omega arith)
length-node_faults program within bound (Binary operation a b) =
    simp (length-append, length-node_faults program within bound a, length-node_faults program within bound b) (omega arith)
length-node_faults program within bound (Choose condition first second) =
    simp (length-append, length-node_faults program within bound condition, length-node_faults program within bound first, length-node_faults program within bound second) (omega arith)
length-node_faults program within bound (Bind value body) =
    simp (length-append, length-node_faults program within bound value, length-node_faults program within (bound + 1) body) (omega arith)
length-node_faults program within bound (Tally ledger amount body) =
    simp (length-append, length-node_faults program within bound amount, length-node_faults program within bound body) (omega arith)
length-node_faults program within bound (Hold lock body) = simp (length-node_faults program true bound body) (omega arith)
length-node_faults program within bound (Fork class child during after) =
    simp (length-append, length-node_faults program within bound child, length-node_faults program within bound during, length-node_faults program within (bound + 2) after) (omega arith)
length-node_faults program within bound (Fold from to first body) =
    simp (length-append, length-node_faults program within bound from, length-node_faults program within bound to, length-node_faults program within bound first, length-node_faults program within (bound + 2) body) (omega arith)
length-node_faults program within bound (Sweep reduction grain from to body) =
    simp (length-append, length-node_faults program within bound from, length-node_faults program within bound to, length-node_faults program within (bound + 1) body) (omega arith)
length-node_faults program within bound _ = refl

-- nodes that follow others are checked if these have no fault
pub judged_more : (node next : ℕ) (xs ys : List (Option NodeFault)) (answer : Result ℕ CheckFault) → Ok next ≡ judged node xs → answer ≡ judged next ys → answer ≡ judged node (xs ++ ys)
judged_more node next [] ys answer is more = let same : next ≡ node = cc in more ∙ ap (λ n. judged n ys) same
judged_more node next (None ∷ xs) ys answer is more = judged_more (node + 1) next xs ys answer is more
judged_more node next (Some fault ∷ xs) ys answer is more = cc

pub judged_front : (node : ℕ) (fault : CheckFault) (xs ys : List (Option NodeFault)) → Err fault ≡ judged node xs → Err fault ≡ judged node (xs ++ ys)
judged_front node fault [] ys is = cc
judged_front node fault (None ∷ xs) ys is = judged_front (node + 1) fault xs ys is
judged_front node fault (Some found ∷ xs) ys is = is

first_fault-ok : (node next : ℕ) (xs : List (Option NodeFault)) → judged node xs ≡ Ok next → first_fault node xs ≡ Ok tt
first_fault-ok node next [] is = refl
first_fault-ok node next (None ∷ xs) is = first_fault-ok (node + 1) next xs is
first_fault-ok node next (Some fault ∷ xs) is = cc

first_fault-err : (node : ℕ) (fault : CheckFault) (xs : List (Option NodeFault)) → judged node xs ≡ Err fault → first_fault node xs ≡ Err fault
first_fault-err node fault [] is = cc
first_fault-err node fault (None ∷ xs) is = first_fault-err (node + 1) fault xs is
first_fault-err node fault (Some found ∷ xs) is = cc

-- The root is checked first, and then its parts.
pub judged_parts : (node : ℕ) (xs : List (Option NodeFault)) (answer : Result ℕ CheckFault) → 0 < length xs
    → Ok tt ≡ first_fault node (take 1 xs) → answer ≡ judged (node + 1) (drop 1 xs) → answer ≡ judged node xs
judged_parts node [] answer some top parts = absurd (omega arith)
judged_parts node (None ∷ xs) answer some top parts = parts
judged_parts node (Some fault ∷ xs) answer some top parts = cc

pub some_faults : (program : Source) (within : Bool) (bound : ℕ) (tree : Tree) → 0 < length (node_faults program within bound tree)
some_faults program within bound tree = rw (length-node_faults program within bound tree) (node_count_positive tree)

-- the limits one by one, and as a test
items-of-arrays : (before : ℕ) (arrays : List (Vec ℕ Global)) → fold (λ so_far array. so_far + length array) before (map (λ array. array.items) arrays)
    ≡ fold (λ so_far array. so_far + length array.items) before arrays
items-of-arrays before [] = refl
items-of-arrays before (array ∷ arrays) = items-of-arrays (before + length array.items) arrays

sum_by-items : (arrays : List (Vec ℕ Global)) → sum_by length (map (λ array. array.items) arrays) ≡ sum_by (λ array. length array.items) arrays
sum_by-items arrays = items-of-arrays 0 arrays

kept-is_within_limits : (program : Program) → KeepsLimits program → is_within_limits (source_of program) ≡ true
kept-is_within_limits program kept =
    rw (length-map, sum_by-items program.arrays.items) (grind (arith, nat_tests))

is_within_limits-kept : (program : Program) → is_within_limits (source_of program) ≡ true → KeepsLimits program
is_within_limits-kept program is =
    let all = rw (length-map, sum_by-items program.arrays.items) at is in
    record {
      nodes = grind (arith, nat_tests);
      arrays = grind (arith, nat_tests);
      items = grind (arith, nat_tests);
      ledgers = grind (arith, nat_tests);
      locks = grind (arith, nat_tests);
    }

false-from-not_true : (b : Bool) → (b ≡ true → ⊥) → b ≡ false
false-from-not_true true not_true = absurd (not_true refl)
false-from-not_true false not_true = refl

-- the verdict, case by case
pub verdict-limits : (program : Program) → nesting (tree_of program.root) ≤ 64 → (KeepsLimits program → ⊥) → Err fault.OverLimit ≡ verdict_of (source_of program)
verdict-limits program flat over =
    let is_flat : nat_lt 64 (nesting (tree_of program.root)) ≡ false = grind (arith, nat_tests) in
    let is_over : is_within_limits (source_of program) ≡ false = false-from-not_true (is_within_limits (source_of program)) (λ kept. over (is_within_limits-kept program kept)) in
    rw (is_flat, is_over) refl

verdict-nodes : (program : Program) → nesting (tree_of program.root) ≤ 64 → KeepsLimits program → verdict_of (source_of program) ≡ first_fault 0 (node_faults (source_of program) false 0 (tree_of program.root))
verdict-nodes program flat kept =
    let is_flat : nat_lt 64 (nesting (tree_of program.root)) ≡ false = grind (arith, nat_tests) in
    let is_kept : is_within_limits (source_of program) ≡ true = kept-is_within_limits program kept in
    rw (is_flat, is_kept) refl

pub verdict-ok : (program : Program) (next : ℕ) → nesting (tree_of program.root) ≤ 64 → KeepsLimits program
    → Ok next ≡ judged 0 (node_faults (source_of program) false 0 (tree_of program.root)) → Ok tt ≡ verdict_of (source_of program)
verdict-ok program next flat kept found =
    sym (verdict-nodes program flat kept ∙ first_fault-ok 0 next (node_faults (source_of program) false 0 (tree_of program.root)) (sym found))

pub verdict-err : (program : Program) (fault : CheckFault) → nesting (tree_of program.root) ≤ 64 → KeepsLimits program
    → Err fault ≡ judged 0 (node_faults (source_of program) false 0 (tree_of program.root)) → Err fault ≡ verdict_of (source_of program)
verdict-err program fault flat kept found =
    sym (verdict-nodes program flat kept ∙ first_fault-err 0 fault (node_faults (source_of program) false 0 (tree_of program.root)) (sym found))
