-- The first of some iterations, and those after it.
use Rattle.std.proofs.Common.{◌≡◌, ◌≤◌, ◌<◌, ℕ, zero, suc, ◌+◌, ◌-◌, List, [], ◌++◌, refl, ap, sym, ◌∙◌, arith, append_assoc, append-nil}
use Rattle.std.proofs.Math.Path.{fun_ext}
use Rattle.arachne_program.specs.{declared.program.Reduction.Reduction, Tree.Tree}
use Rattle.arachne_program.specs.Value.{Environment, turns, with_newest, value_of, apply, operation_of}
use Rattle.arachne_program.specs.Effects.{Effects, nothing, turns_effects, effects_of}
use Rattle.arachne_machine.specs.{Account.{Account, after}, Work.{total, work_of}, Trace.{Event, in_turn, trace_of}}
use Rattle.arachne_machine.specs.Turns.{folded, folded_effects, folded_work, folded_trace, swept, swept_effects, swept_work, swept_trace}
use Rattle.arachne_machine.proofs.Accounts.{after-nothing, after-sequence}

add_none : (n : ℕ) → n + 0 ≡ n
add_none n = omega arith

turns-first : (step : ℕ → ℕ → ℕ) (n v : ℕ) → turns step (suc n) v ≡ turns (λ j. step (suc j)) n (step 0 v)
turns-first step zero v = refl
turns-first step (suc n) v = ap (step (suc n)) (turns-first step n v)

effects-first : (name : List ℕ) (turn : ℕ → Effects) (n : ℕ) (a : Account) →
    after name (turns_effects turn (suc n)) a ≡ after name (turns_effects (λ j. turn (suc j)) n) (after name (turn 0) a)
effects-first name turn zero a =
    after-sequence name nothing (turn 0) a ∙ ap (after name (turn 0)) (after-nothing name a) ∙ sym (after-nothing name (after name (turn 0) a))
effects-first name turn (suc n) a =
    after-sequence name (turns_effects turn (suc n)) (turn (suc n)) a ∙ ap (after name (turn (suc n))) (effects-first name turn n a)
    ∙ sym (after-sequence name (turns_effects (λ j. turn (suc j)) n) (turn (suc n)) (after name (turn 0) a))

total-first : (f : ℕ → ℕ) (n : ℕ) → total f (suc n) ≡ f 0 + total (λ j. f (suc j)) n
total-first f zero = omega arith
total-first f (suc n) = omega (arith, total-first f n)

in_turn-first : (events : ℕ → List Event) (n : ℕ) → in_turn events (suc n) ≡ events 0 ++ in_turn (λ j. events (suc j)) n
in_turn-first events zero = sym (append-nil (events 0))
in_turn-first events (suc n) =
    ap (λ l. l ++ events (suc n)) (in_turn-first events n) ∙ append_assoc (events 0) (in_turn (λ j. events (suc j)) n) (events (suc n))

-- numbers are counted from the next one on
counted : (from j : ℕ) → from + suc j ≡ from + 1 + j
counted from j = omega arith

turns-from : (step : ℕ → ℕ → ℕ) (from n v : ℕ) → turns (λ j. step (from + j)) (suc n) v ≡ turns (λ j. step (from + 1 + j)) n (step from v)
turns-from step from n v =
    let first : from + 0 ≡ from = omega arith in
    turns-first (λ j. step (from + j)) n v
    ∙ ap (λ i. turns (λ j. step (from + suc j)) n (step i v)) first
    ∙ ap (λ s. turns s n (step from v)) (fun_ext (λ j. ap step (counted from j)))

some_left : (next end : ℕ) → next < end → end - next ≡ suc (end - (next + 1))
some_left next end lt = omega arith

none_left : (next end : ℕ) → end ≤ next → end - next ≡ 0
none_left next end le = omega arith

-- Folds.
abbrev fold_step : List (List ℕ) → Tree → Environment → ℕ → ℕ → ℕ
fold_step arrays body env i so_far = value_of arrays body (with_newest (with_newest env i) so_far)

folded-first : (arrays : List (List ℕ)) (body : Tree) (env : Environment) (from n v : ℕ) →
    folded arrays body env from (suc n) v ≡ folded arrays body env (from + 1) n (fold_step arrays body env from v)
folded-first arrays body env from n v = turns-from (fold_step arrays body env) from n v

pub folded-turn : (arrays : List (List ℕ)) (body : Tree) (env : Environment) (next end v : ℕ) → next < end →
    folded arrays body env next (end - next) v
    ≡ folded arrays body env (next + 1) (end - (next + 1)) (value_of arrays body (with_newest (with_newest env next) v))
folded-turn arrays body env next end v lt =
    ap (λ n. folded arrays body env next n v) (some_left next end lt) ∙ folded-first arrays body env next (end - (next + 1)) v

pub folded-done : (arrays : List (List ℕ)) (body : Tree) (env : Environment) (next end v : ℕ) → end ≤ next → folded arrays body env next (end - next) v ≡ v
folded-done arrays body env next end v le = ap (λ n. folded arrays body env next n v) (none_left next end le)

-- the effects, steps or trace of an iteration, by its number and the value so far
shifted : {X : Type 0} (G : ℕ → ℕ → X) (arrays : List (List ℕ)) (body : Tree) (env : Environment) (from v : ℕ) →
    ◌≡◌ {A = ℕ → X} (λ j. G (from + suc j) (folded arrays body env from (suc j) v))
    (λ j. G (from + 1 + j) (folded arrays body env (from + 1) j (fold_step arrays body env from v)))
shifted {X} G arrays body env from v =
    fun_ext (λ j. ap (λ i. G i (folded arrays body env from (suc j) v)) (counted from j)
    ∙ ap (G (from + 1 + j)) (folded-first arrays body env from j v))

pub folded_effects-turn : (arrays : List (List ℕ)) (locks : ℕ) (body : Tree) (env : Environment) (next end v : ℕ) (name : List ℕ) (a : Account) → next < end →
    after name (folded_effects arrays locks body env next (end - next) v) a
    ≡ after name (folded_effects arrays locks body env (next + 1) (end - (next + 1)) (value_of arrays body (with_newest (with_newest env next) v)))
    (after name (effects_of arrays locks body (with_newest (with_newest env next) v)) a)
folded_effects-turn arrays locks body env next end v name a lt =
    let G : ℕ → ℕ → Effects = λ i s. effects_of arrays locks body (with_newest (with_newest env i) s) in
    let n = end - (next + 1) in
    let first = add_none next in
    ap (λ m. after name (folded_effects arrays locks body env next m v) a) (some_left next end lt)
    ∙ effects-first name (λ j. G (next + j) (folded arrays body env next j v)) n a
    ∙ ap (λ i. after name (turns_effects (λ j. G (next + suc j) (folded arrays body env next (suc j) v)) n) (after name (G i v) a)) first
    ∙ ap (λ turn. after name (turns_effects turn n) (after name (G next v) a)) (shifted G arrays body env next v)

pub folded_effects-done : (arrays : List (List ℕ)) (locks : ℕ) (body : Tree) (env : Environment) (next end v : ℕ) (name : List ℕ) (a : Account) → end ≤ next →
    after name (folded_effects arrays locks body env next (end - next) v) a ≡ a
folded_effects-done arrays locks body env next end v name a le =
    ap (λ n. after name (folded_effects arrays locks body env next n v) a) (none_left next end le) ∙ after-nothing name a

pub folded_work-turn : (arrays : List (List ℕ)) (body : Tree) (env : Environment) (next end v : ℕ) → next < end →
    folded_work arrays body env next (end - next) v
    ≡ work_of arrays body (with_newest (with_newest env next) v)
    + folded_work arrays body env (next + 1) (end - (next + 1)) (value_of arrays body (with_newest (with_newest env next) v))
folded_work-turn arrays body env next end v lt =
    let G : ℕ → ℕ → ℕ = λ i s. work_of arrays body (with_newest (with_newest env i) s) in
    let n = end - (next + 1) in
    let first = add_none next in
    ap (λ m. folded_work arrays body env next m v) (some_left next end lt)
    ∙ total-first (λ j. G (next + j) (folded arrays body env next j v)) n
    ∙ ap (λ i. G i v + total (λ j. G (next + suc j) (folded arrays body env next (suc j) v)) n) first
    ∙ ap (λ turn. G next v + total turn n) (shifted G arrays body env next v)

pub folded_work-done : (arrays : List (List ℕ)) (body : Tree) (env : Environment) (next end v : ℕ) → end ≤ next → folded_work arrays body env next (end - next) v ≡ 0
folded_work-done arrays body env next end v le = ap (λ n. folded_work arrays body env next n v) (none_left next end le)

pub folded_trace-turn : (arrays : List (List ℕ)) (body : Tree) (env : Environment) (next end v : ℕ) → next < end →
    folded_trace arrays body env next (end - next) v
    ≡ trace_of arrays body (with_newest (with_newest env next) v)
    ++ folded_trace arrays body env (next + 1) (end - (next + 1)) (value_of arrays body (with_newest (with_newest env next) v))
folded_trace-turn arrays body env next end v lt =
    let G : ℕ → ℕ → List Event = λ i s. trace_of arrays body (with_newest (with_newest env i) s) in
    let n = end - (next + 1) in
    let first = add_none next in
    ap (λ m. folded_trace arrays body env next m v) (some_left next end lt)
    ∙ in_turn-first (λ j. G (next + j) (folded arrays body env next j v)) n
    ∙ ap (λ i. G i v ++ in_turn (λ j. G (next + suc j) (folded arrays body env next (suc j) v)) n) first
    ∙ ap (λ turn. G next v ++ in_turn turn n) (shifted G arrays body env next v)

pub folded_trace-done : (arrays : List (List ℕ)) (body : Tree) (env : Environment) (next end v : ℕ) → end ≤ next → folded_trace arrays body env next (end - next) v ≡ []
folded_trace-done arrays body env next end v le = ap (λ n. folded_trace arrays body env next n v) (none_left next end le)

-- Sweeps.
abbrev sweep_step : List (List ℕ) → Reduction → Tree → Environment → ℕ → ℕ → ℕ
sweep_step arrays reduction body env i so_far = apply (operation_of reduction) so_far (value_of arrays body (with_newest env i))

pub swept-turn : (arrays : List (List ℕ)) (reduction : Reduction) (body : Tree) (env : Environment) (next end v : ℕ) → next < end →
    swept arrays reduction body env next (end - next) v
    ≡ swept arrays reduction body env (next + 1) (end - (next + 1)) (apply (operation_of reduction) v (value_of arrays body (with_newest env next)))
swept-turn arrays reduction body env next end v lt =
    ap (λ n. swept arrays reduction body env next n v) (some_left next end lt)
    ∙ turns-from (sweep_step arrays reduction body env) next (end - (next + 1)) v

pub swept-done : (arrays : List (List ℕ)) (reduction : Reduction) (body : Tree) (env : Environment) (next end v : ℕ) → end ≤ next →
    swept arrays reduction body env next (end - next) v ≡ v
swept-done arrays reduction body env next end v le = ap (λ n. swept arrays reduction body env next n v) (none_left next end le)

pub swept_effects-turn : (arrays : List (List ℕ)) (locks : ℕ) (body : Tree) (env : Environment) (next end : ℕ) (name : List ℕ) (a : Account) → next < end →
    after name (swept_effects arrays locks body env next (end - next)) a
    ≡ after name (swept_effects arrays locks body env (next + 1) (end - (next + 1))) (after name (effects_of arrays locks body (with_newest env next)) a)
swept_effects-turn arrays locks body env next end name a lt =
    let G : ℕ → Effects = λ i. effects_of arrays locks body (with_newest env i) in
    let n = end - (next + 1) in
    let first = add_none next in
    ap (λ m. after name (swept_effects arrays locks body env next m) a) (some_left next end lt)
    ∙ effects-first name (λ j. G (next + j)) n a
    ∙ ap (λ i. after name (turns_effects (λ j. G (next + suc j)) n) (after name (G i) a)) first
    ∙ ap (λ turn. after name (turns_effects turn n) (after name (G next) a)) (fun_ext (λ j. ap G (counted next j)))

pub swept_effects-done : (arrays : List (List ℕ)) (locks : ℕ) (body : Tree) (env : Environment) (next end : ℕ) (name : List ℕ) (a : Account) → end ≤ next →
    after name (swept_effects arrays locks body env next (end - next)) a ≡ a
swept_effects-done arrays locks body env next end name a le =
    ap (λ n. after name (swept_effects arrays locks body env next n) a) (none_left next end le) ∙ after-nothing name a

pub swept_work-turn : (arrays : List (List ℕ)) (body : Tree) (env : Environment) (next end : ℕ) → next < end →
    swept_work arrays body env next (end - next)
    ≡ work_of arrays body (with_newest env next) + swept_work arrays body env (next + 1) (end - (next + 1))
swept_work-turn arrays body env next end lt =
    let G : ℕ → ℕ = λ i. work_of arrays body (with_newest env i) in
    let n = end - (next + 1) in
    let first = add_none next in
    ap (λ m. swept_work arrays body env next m) (some_left next end lt)
    ∙ total-first (λ j. G (next + j)) n
    ∙ ap (λ i. G i + total (λ j. G (next + suc j)) n) first
    ∙ ap (λ turn. G next + total turn n) (fun_ext (λ j. ap G (counted next j)))

pub swept_work-done : (arrays : List (List ℕ)) (body : Tree) (env : Environment) (next end : ℕ) → end ≤ next → swept_work arrays body env next (end - next) ≡ 0
swept_work-done arrays body env next end le = ap (λ n. swept_work arrays body env next n) (none_left next end le)

pub swept_trace-turn : (arrays : List (List ℕ)) (body : Tree) (env : Environment) (next end : ℕ) → next < end →
    swept_trace arrays body env next (end - next)
    ≡ trace_of arrays body (with_newest env next) ++ swept_trace arrays body env (next + 1) (end - (next + 1))
swept_trace-turn arrays body env next end lt =
    let G : ℕ → List Event = λ i. trace_of arrays body (with_newest env i) in
    let n = end - (next + 1) in
    let first = add_none next in
    ap (λ m. swept_trace arrays body env next m) (some_left next end lt)
    ∙ in_turn-first (λ j. G (next + j)) n
    ∙ ap (λ i. G i ++ in_turn (λ j. G (next + suc j)) n) first
    ∙ ap (λ turn. G next ++ in_turn turn n) (fun_ext (λ j. ap G (counted next j)))

pub swept_trace-done : (arrays : List (List ℕ)) (body : Tree) (env : Environment) (next end : ℕ) → end ≤ next → swept_trace arrays body env next (end - next) ≡ []
swept_trace-done arrays body env next end le = ap (λ n. swept_trace arrays body env next n) (none_left next end le)
