-- The value of an expression. Numbers are below 2 ^ 64, and arithmetic is modulo 2 ^ 64.
use Rattle.std.specs.Prelude.{ℕ, zero, suc, ◌+◌, ◌-◌, ◌*◌, ◌%◌, ◌^◌, min, max, bit_xor, nat_lt, ◌==◌, if◌then◌else◌, List, [], ◌∷◌, ◌++◌, length, slice_index, slice_index_or}
use Rattle.arachne_program.specs.declared.program.Operation.{Operation}
use Rattle.arachne_program.specs.declared.program.Operation.TheVariants.{Add, Sub, Mul, Min, Max, Xor, Lt, Eq}
use Rattle.arachne_program.specs.declared.program.Reduction.{Reduction}
use Rattle.arachne_program.specs.declared.program.Reduction.TheVariants.{Sum, Product, Parity, Least, Greatest}
use Rattle.arachne_program.specs.Tree.{Tree, Number, Variable, Length, Item, Binary, Choose, Bind, Tally, Hold, Fork, Fold, Sweep}

abbrev pub wrapped : ℕ → ℕ
wrapped n = n % 2 ^ 64

-- the result of an operation on two numbers, unsigned
abbrev pub apply : Operation → ℕ → ℕ → ℕ
apply Add x y = wrapped (x + y)
apply Sub x y = wrapped (x + (2 ^ 64 - y))
apply Mul x y = wrapped (x * y)
apply Min x y = min x y
apply Max x y = max x y
apply Xor x y = bit_xor x y
apply Lt x y = if nat_lt x y then 1 else 0
apply Eq x y = if x == y then 1 else 0

-- the operation by which a sweep reduces; the value that it starts from follows
abbrev pub operation_of : Reduction → Operation
operation_of Sum = Add
operation_of Product = Mul
operation_of Parity = Xor
operation_of Least = Min
operation_of Greatest = Max

abbrev pub unit_of : Reduction → ℕ
unit_of Sum = 0
unit_of Product = 1
unit_of Parity = 0
unit_of Least = 2 ^ 64 - 1
unit_of Greatest = 0

-- the result of n iterations of a step from a first value; the iterations are numbered from 0
abbrev pub turns : (ℕ → ℕ → ℕ) → ℕ → ℕ → ℕ
turns step zero first = first
turns step (suc j) first = step j (turns step j first)

-- the values of the variables, the oldest first
abbrev pub Environment : Type 0
Environment = List ℕ

-- the environment with a newest variable
abbrev pub with_newest : Environment → ℕ → Environment
with_newest environment value = environment ++ value ∷ []

-- the array of this number, or the empty one if there is none
abbrev pub array_at : List (List ℕ) → ℕ → List ℕ
array_at arrays a = slice_index_or arrays a []

abbrev pub value_of : List (List ℕ) → Tree → Environment → ℕ
value_of arrays (Number n) env = n
value_of arrays (Variable k) env = slice_index env k
value_of arrays (Length a) env = length (array_at arrays a)
value_of arrays (Item a index) env = slice_index (array_at arrays a) (value_of arrays index env)
value_of arrays (Binary operation a b) env = apply operation (value_of arrays a env) (value_of arrays b env)
value_of arrays (Choose condition first second) env =
    if value_of arrays condition env == 0 then value_of arrays second env else value_of arrays first env
value_of arrays (Bind bound body) env = value_of arrays body (with_newest env (value_of arrays bound env))
value_of arrays (Tally ledger amount body) env = value_of arrays body env
value_of arrays (Hold lock body) env = value_of arrays body env
value_of arrays (Fork class child during after) env =
    value_of arrays after (with_newest (with_newest env (value_of arrays child env)) (value_of arrays during env))
value_of arrays (Fold from to first body) env =
    turns (λ j so_far. value_of arrays body (with_newest (with_newest env (value_of arrays from env + j)) so_far))
    (value_of arrays to env - value_of arrays from env)
    (value_of arrays first env)
value_of arrays (Sweep reduction grain from to body) env =
    turns (λ j so_far. apply (operation_of reduction) so_far (value_of arrays body (with_newest env (value_of arrays from env + j))))
    (value_of arrays to env - value_of arrays from env)
    (unit_of reduction)
