-- The number of steps that an expression takes, with those of the threads that it forks.
use Rattle.std.specs.Prelude.{ℕ, zero, suc, ◌+◌, ◌-◌, ◌==◌, if◌then◌else◌, List}
use Rattle.arachne_program.specs.Tree.{Tree, Number, Variable, Length, Item, Binary, Choose, Bind, Tally, Hold, Fork, Fold, Sweep}
use Rattle.arachne_program.specs.{Value.{Environment, with_newest, value_of, turns}, Effects.{Task, Evaluate, Reduce}}
use Rattle.arachne_program.specs.Parts.{by_halves}

-- the sum of the first n values of f, from f of 0 on
abbrev pub total : (ℕ → ℕ) → ℕ → ℕ
total f zero = 0
total f (suc j) = total f j + f j

-- The steps of n numbers of a sweep from `first` on, given those of each number. A part that is not split takes a step
-- to begin, and one to hand its value on. A part that is split takes one for the split, and one to hand on the result
-- of its halves.
abbrev pub work_of_part : (ℕ → ℕ) → ℕ → ℕ → ℕ → ℕ
work_of_part turn grain first n = by_halves (λ from k. total (λ j. turn (from + j)) k + 2) (λ from k left right. left + right + 2) grain n first n

-- The steps of an expression. A step begins a node, or a part of a sweep, and hands on the value if it is known then. A
-- step of its own hands on the result of a fold, of a part of a sweep or of two halves, or the value of a hold's body.
abbrev pub work_of : List (List ℕ) → Tree → Environment → ℕ
work_of arrays (Number n) env = 1
work_of arrays (Variable k) env = 1
work_of arrays (Length a) env = 1
work_of arrays (Item a index) env = work_of arrays index env + 1
work_of arrays (Binary operation a b) env = work_of arrays a env + work_of arrays b env + 1
work_of arrays (Choose condition first second) env =
    work_of arrays condition env + (if value_of arrays condition env == 0 then work_of arrays second env else work_of arrays first env) + 1
work_of arrays (Bind bound body) env = work_of arrays bound env + work_of arrays body (with_newest env (value_of arrays bound env)) + 1
work_of arrays (Tally ledger amount body) env = work_of arrays amount env + work_of arrays body env + 1
work_of arrays (Hold lock body) env = work_of arrays body env + 2
work_of arrays (Fork class child during after) env =
    work_of arrays child env + work_of arrays during env
    + work_of arrays after (with_newest (with_newest env (value_of arrays child env)) (value_of arrays during env)) + 1
work_of arrays (Fold from to first body) env =
    work_of arrays from env + work_of arrays to env + work_of arrays first env
    + total (λ j. work_of arrays body (with_newest (with_newest env (value_of arrays from env + j))
    (turns (λ i so_far. value_of arrays body (with_newest (with_newest env (value_of arrays from env + i)) so_far)) j (value_of arrays first env))))
    (value_of arrays to env - value_of arrays from env) + 2
work_of arrays (Sweep reduction grain from to body) env =
    work_of arrays from env + work_of arrays to env
    + work_of_part (λ i. work_of arrays body (with_newest env i)) grain (value_of arrays from env) (value_of arrays to env - value_of arrays from env) + 1

-- the steps of a task
abbrev pub task_work : List (List ℕ) → Task → ℕ
task_work arrays (Evaluate tree env) = work_of arrays tree env
task_work arrays (Reduce reduction grain body env first n) = work_of_part (λ i. work_of arrays body (with_newest env i)) grain first n
