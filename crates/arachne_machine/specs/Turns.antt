-- The iterations of a fold or a sweep over n numbers, from a number on.
use Rattle.std.specs.Prelude.{ℕ, ◌+◌, List}
use Rattle.arachne_program.specs.{Value.{Environment, with_newest, value_of, apply, operation_of, turns}, Tree.Tree}
use Rattle.arachne_program.specs.{Effects.{Effects, turns_effects, effects_of}, declared.program.Reduction.Reduction}
use Rattle.arachne_machine.specs.{Work.{total, work_of}, Trace.{Event, in_turn, trace_of}}

-- the value of a fold's iterations from a value on; their effects, steps and trace follow
abbrev pub folded : List (List ℕ) → Tree → Environment → ℕ → ℕ → ℕ → ℕ
folded arrays body env from n value = turns (λ j so_far. value_of arrays body (with_newest (with_newest env (from + j)) so_far)) n value

abbrev pub folded_effects : List (List ℕ) → ℕ → Tree → Environment → ℕ → ℕ → ℕ → Effects
folded_effects arrays locks body env from n value =
    turns_effects (λ j. effects_of arrays locks body (with_newest (with_newest env (from + j)) (folded arrays body env from j value))) n

abbrev pub folded_work : List (List ℕ) → Tree → Environment → ℕ → ℕ → ℕ → ℕ
folded_work arrays body env from n value =
    total (λ j. work_of arrays body (with_newest (with_newest env (from + j)) (folded arrays body env from j value))) n

abbrev pub folded_trace : List (List ℕ) → Tree → Environment → ℕ → ℕ → ℕ → List Event
folded_trace arrays body env from n value =
    in_turn (λ j. trace_of arrays body (with_newest (with_newest env (from + j)) (folded arrays body env from j value))) n

-- the value of the iterations of a sweep that is not split; their effects, steps and trace follow
abbrev pub swept : List (List ℕ) → Reduction → Tree → Environment → ℕ → ℕ → ℕ → ℕ
swept arrays reduction body env from n value =
    turns (λ j so_far. apply (operation_of reduction) so_far (value_of arrays body (with_newest env (from + j)))) n value

abbrev pub swept_effects : List (List ℕ) → ℕ → Tree → Environment → ℕ → ℕ → Effects
swept_effects arrays locks body env from n = turns_effects (λ j. effects_of arrays locks body (with_newest env (from + j))) n

abbrev pub swept_work : List (List ℕ) → Tree → Environment → ℕ → ℕ → ℕ
swept_work arrays body env from n = total (λ j. work_of arrays body (with_newest env (from + j))) n

abbrev pub swept_trace : List (List ℕ) → Tree → Environment → ℕ → ℕ → List Event
swept_trace arrays body env from n = in_turn (λ j. trace_of arrays body (with_newest env (from + j))) n
