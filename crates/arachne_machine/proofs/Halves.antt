-- A sweep that is split in halves has the same result.
use Rattle.std.proofs.Common.{◌≡◌, ◌≤◌, ◌<◌, ℕ, zero, suc, ◌+◌, ◌-◌, ◌*◌, ◌/◌, ◌^◌, List, [], ◌∷◌, ◌++◌, true, false, inl, inr, refl, ap, sym, ◌∙◌, arith, rules, min, max, nat_le, if◌then◌else◌}
use Rattle.std.proofs.Math.Nat.{min-le_left, min-eq_left, max-zero, mod-mod, add-mod-mod, mod-add-mod, add_assoc, mul_assoc}
use Rattle.std.proofs.{Math.Path.fun_ext, lemmas.Nat.{mul-mod_first, mul-mod_second}}
use Rattle.std.{proofs.lemmas.Bool.cases_lt, specs.Int.Bits.{xor_assoc, xor_zero_r}}
use Rattle.arachne_program.specs.{declared.program.Reduction.Reduction, Tree.Tree, Parts.by_halves}
use Rattle.arachne_program.specs.declared.program.Reduction.TheVariants.{Sum, Product, Parity, Least, Greatest}
use Rattle.arachne_program.specs.Value.{Environment, turns, with_newest, value_of, apply, operation_of, unit_of, wrapped}
use Rattle.arachne_program.specs.Effects.{Reduce, Child, Effects, forked, half, turns_effects, effects_of, task_value, task_effects}
use Rattle.arachne_machine.specs.declared.pause.Pending.TheVariants as pause
use Rattle.arachne_machine.specs.{Turns.{swept, swept_effects, swept_work, swept_trace}, Work.task_work}
use Rattle.arachne_machine.specs.Trace.{Step, At, task_trace}

-- Values.
reduction_assoc : (r : Reduction) (x y z : ℕ) → apply (operation_of r) (apply (operation_of r) x y) z ≡ apply (operation_of r) x (apply (operation_of r) y z)
reduction_assoc Sum x y z =
    mod-add-mod (x + y) (2 ^ 64) z ∙ ap wrapped (add_assoc x y z) ∙ sym (add-mod-mod x (y + z) (2 ^ 64))
reduction_assoc Product x y z =
    mul-mod_first (x * y) z (2 ^ 64) ∙ ap wrapped (mul_assoc x y z) ∙ sym (mul-mod_second x (y * z) (2 ^ 64))
reduction_assoc Parity x y z = xor_assoc x y z
reduction_assoc Least x y z = omega arith
reduction_assoc Greatest x y z = omega arith

least_bounded : (step : ℕ → ℕ) (k : ℕ) → turns (λ j so_far. min so_far (step j)) k (2 ^ 64 - 1) ≤ 2 ^ 64 - 1
least_bounded step zero = omega arith
least_bounded step (suc k) =
    let so_far = turns (λ j s. min s (step j)) k (2 ^ 64 - 1) in
    omega (arith, least_bounded step k, min-le_left so_far (step k))

wrapped_once : (x : ℕ) → wrapped (wrapped x + 0) ≡ wrapped x
wrapped_once x = ap wrapped (omega arith) ∙ mod-mod x (2 ^ 64)

times_one : (x : ℕ) → wrapped (wrapped x * 1) ≡ wrapped x
times_one x = ap wrapped (omega arith) ∙ mod-mod x (2 ^ 64)

-- the result of k iterations from the unit is unchanged if it is combined with the unit
unit_right : (r : Reduction) (step : ℕ → ℕ) (k : ℕ) →
    apply (operation_of r) (turns (λ j so_far. apply (operation_of r) so_far (step j)) k (unit_of r)) (unit_of r)
    ≡ turns (λ j so_far. apply (operation_of r) so_far (step j)) k (unit_of r)
unit_right Sum step zero = refl
unit_right Sum step (suc k) = wrapped_once (turns (λ j s. apply (operation_of Sum) s (step j)) k 0 + step k)
unit_right Product step zero = refl
unit_right Product step (suc k) = times_one (turns (λ j s. apply (operation_of Product) s (step j)) k 1 * step k)
unit_right Parity step k = xor_zero_r (turns (λ j s. apply (operation_of Parity) s (step j)) k 0)
unit_right Least step k = min-eq_left (least_bounded step k)
unit_right Greatest step k = max-zero (turns (λ j s. apply (operation_of Greatest) s (step j)) k 0)

-- the result of iterations from a value on is that value combined with the result from the unit on
turns_apart : (r : Reduction) (step : ℕ → ℕ) (k x : ℕ) → apply (operation_of r) x (unit_of r) ≡ x →
    turns (λ j so_far. apply (operation_of r) so_far (step j)) k x
    ≡ apply (operation_of r) x (turns (λ j so_far. apply (operation_of r) so_far (step j)) k (unit_of r))
turns_apart r step zero x h = sym h
turns_apart r step (suc k) x h =
    ap (λ v. apply (operation_of r) v (step k)) (turns_apart r step k x h)
    ∙ reduction_assoc r x (turns (λ j s. apply (operation_of r) s (step j)) k (unit_of r)) (step k)

turns_after : (r : Reduction) (step : ℕ → ℕ) (m k v : ℕ) →
    turns (λ j so_far. apply (operation_of r) so_far (step j)) (m + k) v
    ≡ turns (λ j so_far. apply (operation_of r) so_far (step (m + j))) k (turns (λ j so_far. apply (operation_of r) so_far (step j)) m v)
turns_after r step m zero v = ap (λ n. turns (λ j s. apply (operation_of r) s (step j)) n v) (omega arith)
turns_after r step m (suc k) v =
    let next : m + suc k ≡ suc (m + k) = omega arith in
    ap (λ n. turns (λ j s. apply (operation_of r) s (step j)) n v) next
    ∙ ap (λ w. apply (operation_of r) w (step (m + k))) (turns_after r step m k v)

pub value_split : (arrays : List (List ℕ)) (r : Reduction) (grain : ℕ) (body : Tree) (env : Environment) (first m n : ℕ) → m ≤ n →
    task_value arrays (Reduce r grain body env first n)
    ≡ apply (operation_of r) (task_value arrays (Reduce r grain body env first m)) (task_value arrays (Reduce r grain body env (first + m) (n - m)))
value_split arrays r grain body env first m n le =
    let V : ℕ → ℕ = λ i. value_of arrays body (with_newest env i) in
    let whole : n ≡ m + (n - m) = omega arith in
    let left = swept arrays r body env first m (unit_of r) in
    ap (λ k. swept arrays r body env first k (unit_of r)) whole
    ∙ turns_after r (λ j. V (first + j)) m (n - m) (unit_of r)
    ∙ ap (λ step. turns step (n - m) left)
    (fun_ext (λ j. fun_ext (λ s. ap (λ i. apply (operation_of r) s (V i)) (sym (add_assoc first m j)))))
    ∙ turns_apart r (λ j. V (first + m + j)) (n - m) left (unit_right r (λ j. V (first + j)) m)

-- The recursion by halves. The fuel has no influence, if it is enough.
fits : (n fuel : ℕ) → 2 ≤ n → n ≤ suc fuel → (n / 2 ≤ fuel) × (n - n / 2 ≤ fuel)
fits n fuel two le = (omega arith, omega arith)

by_halves-whole : {X : Type 0} (whole : ℕ → ℕ → X) (split : ℕ → ℕ → X → X → X) (grain fuel first n : ℕ) → n ≤ max 1 grain →
    by_halves whole split grain fuel first n ≡ whole first n
by_halves-whole whole split grain zero first n le = refl
by_halves-whole whole split grain (suc fuel) first n le =
    let small : nat_le n (max 1 grain) ≡ true = search rules in
    ap (λ b. if b then whole first n
    else split first n (by_halves whole split grain fuel first (n / 2)) (by_halves whole split grain fuel (first + n / 2) (n - n / 2))) small

by_halves-some : {X : Type 0} (whole : ℕ → ℕ → X) (split : ℕ → ℕ → X → X → X) (grain fuel first n : ℕ) → max 1 grain < n →
    by_halves whole split grain (suc fuel) first n
    ≡ split first n (by_halves whole split grain fuel first (n / 2)) (by_halves whole split grain fuel (first + n / 2) (n - n / 2))
by_halves-some whole split grain fuel first n lt =
    let large : nat_le n (max 1 grain) ≡ false = search rules in
    ap (λ b. if b then whole first n
    else split first n (by_halves whole split grain fuel first (n / 2)) (by_halves whole split grain fuel (first + n / 2) (n - n / 2))) large

by_halves-fuel : {X : Type 0} (whole : ℕ → ℕ → X) (split : ℕ → ℕ → X → X → X) (grain fuel other first n : ℕ) → n ≤ fuel → n ≤ other →
    by_halves whole split grain fuel first n ≡ by_halves whole split grain other first n
by_halves-fuel whole split grain zero other first n le le' =
    let small : n ≤ max 1 grain = omega arith in
    by_halves-whole whole split grain zero first n small ∙ sym (by_halves-whole whole split grain other first n small)
by_halves-fuel whole split grain (suc fuel) zero first n le le' =
    let small : n ≤ max 1 grain = omega arith in
    by_halves-whole whole split grain (suc fuel) first n small ∙ sym (by_halves-whole whole split grain zero first n small)
by_halves-fuel whole split grain (suc fuel) (suc other) first n le le' =
    elim (cases_lt (max 1 grain) n) [
      | inl lt ↦
          let here = fits n fuel (omega arith) le in
          let there = fits n other (omega arith) le' in
          by_halves-some whole split grain fuel first n lt
          ∙ ap (λ x. split first n x (by_halves whole split grain fuel (first + n / 2) (n - n / 2)))
          (by_halves-fuel whole split grain fuel other first (n / 2) here.0 there.0)
          ∙ ap (split first n (by_halves whole split grain other first (n / 2)))
          (by_halves-fuel whole split grain fuel other (first + n / 2) (n - n / 2) here.1 there.1)
          ∙ sym (by_halves-some whole split grain other first n lt)
      | inr small ↦ by_halves-whole whole split grain (suc fuel) first n small ∙ sym (by_halves-whole whole split grain (suc other) first n small)
    ]

by_halves-split : {X : Type 0} (whole : ℕ → ℕ → X) (split : ℕ → ℕ → X → X → X) (grain first n : ℕ) → max 1 grain < n →
    by_halves whole split grain n first n
    ≡ split first n (by_halves whole split grain (n / 2) first (n / 2)) (by_halves whole split grain (n - n / 2) (first + n / 2) (n - n / 2))
by_halves-split whole split grain first n lt =
    let m = n / 2 in
    let some : n ≡ suc (n - 1) = omega arith in
    let within = fits n (n - 1) (omega arith) (omega arith) in
    ap (λ fuel. by_halves whole split grain fuel first n) some
    ∙ by_halves-some whole split grain (n - 1) first n lt
    ∙ ap (λ x. split first n x (by_halves whole split grain (n - 1) (first + m) (n - m))) (by_halves-fuel whole split grain (n - 1) m first m within.0 (omega arith))
    ∙ ap (split first n (by_halves whole split grain m first m))
    (by_halves-fuel whole split grain (n - 1) (n - m) (first + m) (n - m) within.1 (omega arith))

-- Effects.
abbrev effects_whole_of : (ℕ → Effects) → ℕ → ℕ → Effects
effects_whole_of turn first n = turns_effects (λ j. turn (first + j)) n

abbrev effects_split_of : ℕ → (ℕ → ℕ → Child) → ℕ → ℕ → Effects → Effects → Effects
effects_split_of locks task first n left right = forked locks (task first (n / 2)) left right

pub effects_whole : (arrays : List (List ℕ)) (locks : ℕ) (r : Reduction) (grain : ℕ) (body : Tree) (env : Environment) (first n : ℕ) → n ≤ max 1 grain →
    task_effects arrays locks (Reduce r grain body env first n) ≡ swept_effects arrays locks body env first n
effects_whole arrays locks r grain body env first n le =
    let task = half r grain body env in
    let turn : ℕ → Effects = λ i. effects_of arrays locks body (with_newest env i) in
    by_halves-whole (effects_whole_of turn) (effects_split_of locks task) grain n first n le

pub effects_split : (arrays : List (List ℕ)) (locks : ℕ) (r : Reduction) (grain : ℕ) (body : Tree) (env : Environment) (first n : ℕ) → max 1 grain < n →
    task_effects arrays locks (Reduce r grain body env first n)
    ≡ forked locks (half r grain body env first (n / 2)) (task_effects arrays locks (Reduce r grain body env first (n / 2)))
    (task_effects arrays locks (Reduce r grain body env (first + n / 2) (n - n / 2)))
effects_split arrays locks r grain body env first n lt =
    let task = half r grain body env in
    let turn : ℕ → Effects = λ i. effects_of arrays locks body (with_newest env i) in
    by_halves-split (effects_whole_of turn) (effects_split_of locks task) grain first n lt

-- Work and traces.
pub work_whole : (arrays : List (List ℕ)) (r : Reduction) (grain : ℕ) (body : Tree) (env : Environment) (first n : ℕ) → n ≤ max 1 grain →
    task_work arrays (Reduce r grain body env first n) ≡ swept_work arrays body env first n + 2
work_whole arrays r grain body env first n le = by_halves-whole (λ from k. swept_work arrays body env from k + 2) (λ from k left right. left + right + 2) grain n first n le

pub work_split : (arrays : List (List ℕ)) (r : Reduction) (grain : ℕ) (body : Tree) (env : Environment) (first n : ℕ) → max 1 grain < n →
    task_work arrays (Reduce r grain body env first n)
    ≡ task_work arrays (Reduce r grain body env first (n / 2)) + task_work arrays (Reduce r grain body env (first + n / 2) (n - n / 2)) + 2
work_split arrays r grain body env first n lt = by_halves-split (λ from k. swept_work arrays body env from k + 2) (λ from k left right. left + right + 2) grain first n lt

pub trace_whole : (arrays : List (List ℕ)) (r : Reduction) (grain : ℕ) (body : Tree) (env : Environment) (first n : ℕ) → n ≤ max 1 grain →
    task_trace arrays (Reduce r grain body env first n) ≡ Step ∷ (swept_trace arrays body env first n ++ Step ∷ [])
trace_whole arrays r grain body env first n le =
    by_halves-whole (λ from k. Step ∷ (swept_trace arrays body env from k ++ Step ∷ [])) (λ from k left right. Step ∷ At pause.Forks ∷ (right ++ At pause.Joins ∷ Step ∷ []))
    grain n first n le

pub trace_split : (arrays : List (List ℕ)) (r : Reduction) (grain : ℕ) (body : Tree) (env : Environment) (first n : ℕ) → max 1 grain < n →
    task_trace arrays (Reduce r grain body env first n)
    ≡ Step ∷ At pause.Forks ∷ (task_trace arrays (Reduce r grain body env (first + n / 2) (n - n / 2)) ++ At pause.Joins ∷ Step ∷ [])
trace_split arrays r grain body env first n lt =
    by_halves-split (λ from k. Step ∷ (swept_trace arrays body env from k ++ Step ∷ [])) (λ from k left right. Step ∷ At pause.Forks ∷ (right ++ At pause.Joins ∷ Step ∷ []))
    grain first n lt
