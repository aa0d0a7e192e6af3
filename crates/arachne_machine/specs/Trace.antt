-- The trace of a thread: its steps and its pauses, in order.
use Rattle.std.specs.Prelude.{ℕ, zero, suc, ◌+◌, ◌-◌, ◌==◌, if◌then◌else◌, List, [], ◌∷◌, ◌++◌}
use Rattle.arachne_program.specs.Tree.{Tree, Number, Variable, Length, Item, Binary, Choose, Bind, Tally, Hold, Fork, Fold, Sweep}
use Rattle.arachne_program.specs.{Value.{Environment, with_newest, value_of, turns}, Effects.{Task, Evaluate, Reduce}}
use Rattle.arachne_program.specs.Parts.{by_halves}
use Rattle.arachne_machine.specs.declared.pause.Pending.{Pending, TheVariants.{Forks, Joins, Asks, Frees, Tallies}}

-- an event of a thread that others can observe
pub data Event : Type 0 where
  Step : Event
  At : Pending → Event

-- n steps, and then these events
abbrev pub with_steps : ℕ → List Event → List Event
with_steps zero events = events
with_steps (suc n) events = Step ∷ with_steps n events

-- the events of the first n iterations, from that of 0 on
abbrev pub in_turn : (ℕ → List Event) → ℕ → List Event
in_turn events zero = []
in_turn events (suc j) = in_turn events j ++ events j

-- The trace of n numbers of a sweep from `first` on, given the trace of each number. If the part is split, the left
-- half is in another thread's trace.
abbrev pub trace_of_part : (ℕ → List Event) → ℕ → ℕ → ℕ → List Event
trace_of_part turn grain first n =
    by_halves (λ from k. Step ∷ (in_turn (λ j. turn (from + j)) k ++ Step ∷ []))
    (λ from k left right. Step ∷ At Forks ∷ (right ++ At Joins ∷ Step ∷ [])) grain n first n

-- The trace of the thread that evaluates an expression. A step begins a node, or a part of a sweep, and hands on the
-- value if it is known then. A step of its own hands on the result of a fold, of a part of a sweep or of two halves, or
-- the value of a hold's body.
abbrev pub trace_of : List (List ℕ) → Tree → Environment → List Event
trace_of arrays (Number n) env = Step ∷ []
trace_of arrays (Variable k) env = Step ∷ []
trace_of arrays (Length a) env = Step ∷ []
trace_of arrays (Item a index) env = Step ∷ trace_of arrays index env
trace_of arrays (Binary operation a b) env = Step ∷ (trace_of arrays a env ++ trace_of arrays b env)
trace_of arrays (Choose condition first second) env =
    Step ∷ (trace_of arrays condition env ++ (if value_of arrays condition env == 0 then trace_of arrays second env else trace_of arrays first env))
trace_of arrays (Bind bound body) env = Step ∷ (trace_of arrays bound env ++ trace_of arrays body (with_newest env (value_of arrays bound env)))
trace_of arrays (Tally ledger amount body) env =
    Step ∷ (trace_of arrays amount env ++ At (Tallies ledger (value_of arrays amount env)) ∷ trace_of arrays body env)
trace_of arrays (Hold lock body) env = Step ∷ At (Asks lock) ∷ (trace_of arrays body env ++ At (Frees lock) ∷ Step ∷ [])
trace_of arrays (Fork class child during after) env =
    Step ∷ At Forks ∷ (trace_of arrays during env
    ++ At Joins ∷ trace_of arrays after (with_newest (with_newest env (value_of arrays child env)) (value_of arrays during env)))
trace_of arrays (Fold from to first body) env =
    Step ∷ (trace_of arrays from env ++ (trace_of arrays to env ++ (trace_of arrays first env
    ++ (in_turn (λ j. trace_of arrays body (with_newest (with_newest env (value_of arrays from env + j))
    (turns (λ i so_far. value_of arrays body (with_newest (with_newest env (value_of arrays from env + i)) so_far)) j (value_of arrays first env))))
    (value_of arrays to env - value_of arrays from env) ++ Step ∷ []))))
trace_of arrays (Sweep reduction grain from to body) env =
    Step ∷ (trace_of arrays from env ++ (trace_of arrays to env
    ++ trace_of_part (λ i. trace_of arrays body (with_newest env i)) grain (value_of arrays from env) (value_of arrays to env - value_of arrays from env)))

-- the trace of the thread of a task
abbrev pub task_trace : List (List ℕ) → Task → List Event
task_trace arrays (Evaluate tree env) = trace_of arrays tree env
task_trace arrays (Reduce reduction grain body env first n) = trace_of_part (λ i. trace_of arrays body (with_newest env i)) grain first n
