-- Pure expressions, and their values.
use Rattle.std.proofs.Common.{◌≡◌, ℕ, suc, ◌+◌, List, [], ◌∷◌, ◌++◌, Bool, true, false, refl, ap, sym, ◌∙◌, subst, arith, ◌==◌, if◌then◌else◌, Option, None, Some, IfSome}
use Rattle.arachne_program.specs.declared.program.Operation.{Operation}
use Rattle.arachne_program.specs.Tree.{Tree, Number, Variable, Binary, Choose, Bind, Source}
use Rattle.arachne_program.specs.{Value.{apply, value_of, with_newest}, Effects.{Effects, nothing, ◌⨾◌, effects_of}}
use Rattle.arachne_machine.{proofs.Frames.{with_steps-add, with_steps-append}, specs.Pure.{IsLeaf, IsPure, IsWorth}}
use Rattle.arachne_machine.specs.{Trace.{Event, Step, with_steps, trace_of}, Work.work_of}

pub leaf_pure : (source : Source) (t : Tree) (env : List ℕ) → IsLeaf t → IsPure source t env
leaf_pure source (Number n) env leaf = record { effects = refl; trace = refl }
leaf_pure source (Variable k) env leaf = record { effects = refl; trace = refl }
leaf_pure source _ env leaf = absurd leaf

pub leaf_work : (A : List (List ℕ)) (t : Tree) (env : List ℕ) → IsLeaf t → work_of A t env ≡ 1
leaf_work A (Number n) env leaf = refl
leaf_work A (Variable k) env leaf = refl
leaf_work A _ env leaf = absurd leaf

both_nothing : (x y : Effects) → x ≡ nothing → y ≡ nothing → x ⨾ y ≡ nothing
both_nothing x y p q = ap (λ e. e ⨾ y) p ∙ ap (λ e. nothing ⨾ e) q

counted : (n : ℕ) → Step ∷ with_steps n [] ≡ with_steps (n + 1) []
counted n = let e : suc n ≡ n + 1 = omega arith in ap (λ j. with_steps j []) e

steps_both : (xs ys : List Event) (m n : ℕ) → xs ≡ with_steps m [] → ys ≡ with_steps n [] → Step ∷ (xs ++ ys) ≡ with_steps (m + n + 1) []
steps_both xs ys m n p q =
    ap (λ l. Step ∷ (l ++ ys)) p ∙ ap (λ l. Step ∷ (with_steps m [] ++ l)) q
    ∙ ap (λ l. Step ∷ l) (sym (with_steps-append m [] (with_steps n [])) ∙ sym (with_steps-add m n [])) ∙ counted (m + n)

pub binary_pure : (source : Source) (env : List ℕ) (operation : Operation) (a b : Tree) → IsPure source a env → IsPure source b env →
    IsPure source (Binary operation a b) env
binary_pure source env operation a b p q =
    let A = source.arrays in
    record {
      effects = both_nothing (effects_of A source.locks a env) (effects_of A source.locks b env) p.effects q.effects;
      trace = steps_both (trace_of A a env) (trace_of A b env) (work_of A a env) (work_of A b env) p.trace q.trace;
    }

-- The forms that may be pure.
pub worth_binary : (source : Source) (env env' : List ℕ) (t : Tree) (operation : Operation) (a b : Tree) (x y value had rest mid left : ℕ) →
    t ≡ Binary operation a b → rest + 2 ≡ had → env' ≡ env → IsWorth source a env x rest mid → IsWorth source b env' y mid left → value ≡ apply operation x y →
    IsWorth source t env value had left
worth_binary source env env' t operation a b x y value had rest mid left is_tree two same v w' is =
    let w = subst (λ e. IsWorth source b e y mid left) same w' in
    subst (λ u. IsWorth source u env value had left) (sym is_tree) (record {
      pure = binary_pure source env operation a b v.pure w.pure;
      value_is = is ∙ ap (λ n. apply operation n y) v.value_is ∙ ap (λ n. apply operation (value_of source.arrays a env) n) w.value_is;
      steps = omega (arith, v.steps, w.steps, two);
    })

of_chosen : {X : Type 0} (f : Tree → X) (c : Bool) (s t : Tree) → f (if c then s else t) ≡ (if c then f s else f t)
of_chosen f true s t = refl
of_chosen f false s t = refl

-- The value of a choice is that of the part that is chosen.
pub worth_choice : (source : Source) (env env' : List ℕ) (t condition first second : Tree) (c : Bool) (x value had rest mid left : ℕ) →
    t ≡ Choose condition first second → rest + 2 ≡ had → env' ≡ env → IsWorth source condition env x rest mid → (x == 0) ≡ c →
    IsWorth source (if c then second else first) env' value mid left → IsWorth source t env value had left
worth_choice source env env' t condition first second c x value had rest mid left is_tree two same v is w' =
    let w = subst (λ e. IsWorth source (if c then second else first) e value mid left) same w' in
    let A = source.arrays in
    let chosen = value_of A condition env == 0 in
    let e : chosen ≡ c = ap (λ n. n == 0) (sym v.value_is) ∙ is in
    let work : (if chosen then work_of A second env else work_of A first env) ≡ work_of A (if c then second else first) env =
    ap (λ b. if b then work_of A second env else work_of A first env) e ∙ sym (of_chosen (λ t. work_of A t env) c second first) in
    subst (λ u. IsWorth source u env value had left) (sym is_tree) (record {
      pure = record {
        effects = both_nothing (effects_of A source.locks condition env) (if chosen then effects_of A source.locks second env else effects_of A source.locks first env)
            v.pure.effects
            (ap (λ b. if b then effects_of A source.locks second env else effects_of A source.locks first env) e
            ∙ sym (of_chosen (λ t. effects_of A source.locks t env) c second first) ∙ w.pure.effects);
        trace = steps_both (trace_of A condition env) (if chosen then trace_of A second env else trace_of A first env)
            (work_of A condition env) (if chosen then work_of A second env else work_of A first env) v.pure.trace
            (ap (λ b. if b then trace_of A second env else trace_of A first env) e ∙ sym (of_chosen (λ t. trace_of A t env) c second first)
            ∙ w.pure.trace ∙ ap (λ n. with_steps n []) (sym work));
      };
      value_is = w.value_is ∙ of_chosen (λ t. value_of A t env) c second first ∙ sym (ap (λ b. if b then value_of A second env else value_of A first env) e);
      steps = omega (arith, v.steps, w.steps, two, work);
    })

pub worth_binding : (source : Source) (env env' : List ℕ) (t bound body : Tree) (x value had rest mid left : ℕ) →
    t ≡ Bind bound body → rest + 2 ≡ had → env' ≡ env → IsWorth source bound env x rest mid → IsWorth source body (with_newest env' x) value mid left →
    IsWorth source t env value had left
worth_binding source env env' t bound body x value had rest mid left is_tree two same v w' =
    let A = source.arrays in
    let env' = with_newest env (value_of A bound env) in
    let w = subst (λ n. IsWorth source body (with_newest env n) value mid left) v.value_is (subst (λ e. IsWorth source body (with_newest e x) value mid left) same w') in
    subst (λ u. IsWorth source u env value had left) (sym is_tree) (record {
      pure = record {
        effects = both_nothing (effects_of A source.locks bound env) (effects_of A source.locks body env') v.pure.effects w.pure.effects;
        trace = steps_both (trace_of A bound env) (trace_of A body env') (work_of A bound env) (work_of A body env') v.pure.trace w.pure.trace;
      };
      value_is = w.value_is;
      steps = omega (arith, v.steps, w.steps, two);
    })

pub some_then : {X : Type 0} (r : Option X) (P Q : X → Type 0) → IfSome r P → ((x : X) → P x → Q x) → IfSome r Q
some_then None P Q h f = tt
some_then (Some x) P Q h f = f x h
