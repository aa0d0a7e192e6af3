-- The programs that pass the check, and the first fault of the others.
use Rattle.std.specs.Prelude.{ℕ, ◌≡◌, ◌+◌, nat_lt, nat_le, ◌&&◌, Bool, true, false, if◌then◌else◌, List, [], ◌∷◌, ◌++◌, length, sum_by, Option, None, Some, Result, Ok, Err}
use Rattle.arachne_program.specs.declared.check_fault.CheckFault.{CheckFault}
use Rattle.arachne_program.specs.declared.check_fault.CheckFault.TheVariants as fault
use Rattle.arachne_program.specs.Tree.{Tree, Number, Variable, Length, Item, Binary, Choose, Bind, Tally, Hold, Fork, Fold, Sweep, Source}
use Rattle.arachne_program.specs.Nesting.{nesting}

-- a fault of a node, given the node's number in the order of the text
abbrev pub NodeFault : Type 0
NodeFault = ℕ → CheckFault

-- the fault, if the test fails
abbrev pub unless : Bool → NodeFault → Option NodeFault
unless holds fault = if holds then None else Some fault

-- the first fault, or else the second
abbrev pub or_else : Option NodeFault → Option NodeFault → Option NodeFault
or_else None other = other
or_else (Some fault) other = Some fault

-- For each node of an expression, its first fault, if it has one. The nodes stand in the order of the text, a node
-- before its parts. The arrays, ledgers and locks are those of the program, `bound` variables are bound, and `within`
-- is true within a hold.
abbrev pub node_faults : Source → Bool → ℕ → Tree → List (Option NodeFault)
node_faults program within bound (Number n) = None ∷ []
node_faults program within bound (Variable k) = unless (nat_lt k bound) fault.Unbound ∷ []
node_faults program within bound (Length a) = unless (nat_lt a (length program.arrays)) fault.NoArray ∷ []
node_faults program within bound (Item a index) =
    unless (nat_lt a (length program.arrays)) fault.NoArray ∷ node_faults program within bound index
node_faults program within bound (Binary operation a b) =
    None ∷ node_faults program within bound a ++ node_faults program within bound b
node_faults program within bound (Choose condition first second) =
    None ∷ node_faults program within bound condition ++ node_faults program within bound first ++ node_faults program within bound second
node_faults program within bound (Bind value body) =
    None ∷ node_faults program within bound value ++ node_faults program within (bound + 1) body
node_faults program within bound (Tally ledger amount body) =
    unless (nat_lt ledger program.ledgers) fault.NoLedger ∷ node_faults program within bound amount ++ node_faults program within bound body
node_faults program within bound (Hold lock body) =
    or_else (if within then Some fault.WithinHold else None) (unless (nat_lt lock program.locks) fault.NoLock)
    ∷ node_faults program true bound body
node_faults program within bound (Fork class child during after) =
    (if within then Some fault.WithinHold else None)
    ∷ node_faults program within bound child ++ node_faults program within bound during ++ node_faults program within (bound + 2) after
node_faults program within bound (Fold from to first body) =
    None ∷ node_faults program within bound from ++ node_faults program within bound to ++ node_faults program within bound first
    ++ node_faults program within (bound + 2) body
node_faults program within bound (Sweep reduction grain from to body) =
    or_else (if within then Some fault.WithinHold else None) (unless (nat_lt 0 grain) fault.NoGrain)
    ∷ node_faults program within bound from ++ node_faults program within bound to ++ node_faults program within (bound + 1) body

-- the first fault of these nodes, whose first has the number `node`
abbrev pub first_fault : ℕ → List (Option NodeFault) → Result (Unit {0}) CheckFault
first_fault node [] = Ok tt
first_fault node (None ∷ nodes) = first_fault (node + 1) nodes
first_fault node (Some fault ∷ nodes) = Err (fault node)

-- the number of nodes of an expression
abbrev pub node_count : Tree → ℕ
node_count (Number n) = 1
node_count (Variable k) = 1
node_count (Length a) = 1
node_count (Item a index) = 1 + node_count index
node_count (Binary operation a b) = 1 + (node_count a + node_count b)
node_count (Choose condition first second) = 1 + (node_count condition + node_count first + node_count second)
node_count (Bind bound body) = 1 + (node_count bound + node_count body)
node_count (Tally ledger amount body) = 1 + (node_count amount + node_count body)
node_count (Hold lock body) = 1 + node_count body
node_count (Fork class child during after) = 1 + (node_count child + node_count during + node_count after)
node_count (Fold from to first body) = 1 + (node_count from + node_count to + node_count first + node_count body)
node_count (Sweep reduction grain from to body) = 1 + (node_count from + node_count to + node_count body)

-- the program keeps the limits on its nodes, arrays, items of all arrays, ledgers and locks
abbrev pub is_within_limits : Source → Bool
is_within_limits program =
    nat_le (node_count program.root) 4096 && nat_le (length program.arrays) 64
    && nat_le (sum_by length program.arrays) 1000000 && nat_le program.ledgers 16 && nat_le program.locks 16

-- The result of the check of a program. First its nesting is checked, then the limits, then the nodes.
abbrev pub verdict_of : Source → Result (Unit {0}) CheckFault
verdict_of program =
    if nat_lt 64 (nesting program.root) then Err fault.Nesting
    else if is_within_limits program then first_fault 0 (node_faults program false 0 program.root)
    else Err fault.OverLimit

abbrev pub IsChecked : Source → Type 0
IsChecked program = verdict_of program ≡ Ok tt
