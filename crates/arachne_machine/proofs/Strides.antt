-- Steps that are made together, of those that are left.
use Rattle.std.proofs.Common.{◌≡◌, ℕ, None, Some, refl, sym, subst, ◌∙◌, arith, IfOk, Result, Ok, Err}
use Rattle.std.specs.Borrow.{Bor}
use Rattle.arachne_program.specs.declared.program.Expr.{Expr}
use Rattle.arachne_machine.specs.declared.{pause.Pending.Pending, state.{State.State, Progress.Progress}}
use Rattle.arachne_machine.specs.{Strands.Strand, Steps.{AfterSteps, IsNotEnd, Makes, Reaches, beginning, giving, top}}
use Rattle.arachne_machine.specs.Runs.{IsOneStep, seen_in}
use Rattle.arachne_machine.specs.declared.state.Progress.TheVariants as part

-- a value that is known at once
pub reaches_value : (had value : ℕ) (a c : Strand) → AfterSteps 0 a None (giving c value) → Reaches had had a (part.Value value) c
reaches_value had value a c goes = record { made = 0; fewer = omega arith; counted = omega arith; goes = goes }

-- one step
pub reaches_once : (had left : ℕ) (a : Strand) (p : Progress) (t : State) → IsOneStep had left p t → AfterSteps 1 a None (top (seen_in p t)) → Reaches had left a p (top t)
reaches_once had left a (part.Value value) t one goes = record { made = 1; fewer = omega (arith, one); counted = omega (arith, one); goes = goes }
reaches_once had left a (part.Begin expr) t one goes = record { made = 1; fewer = omega (arith, one); counted = omega (arith, one); goes = goes }
reaches_once had left a part.Goes t one goes = (record { made = 1; fewer = omega (arith, one.0); counted = omega (arith, one.0); goes = goes }, one.1)
reaches_once had left a part.Stops t one goes = absurd one
reaches_once had left a (part.Forks class child) t one goes = absurd one

-- one step, after which an expression is begun
pub reaches_part : (had : ℕ) (a : Strand) (p : Progress) (c : Strand) (e : Bor Expr) → p ≡ part.Begin e → AfterSteps 1 a None (beginning c e) → Reaches had had a p c
reaches_part had a p c e is goes = subst (λ x. Reaches had had a x c) (sym is) (record { made = 1; fewer = omega arith; counted = omega arith; goes = goes })

-- the same for equal states and expressions
pub part_begun : (had : ℕ) (a s c : Strand) (p q e : Bor Expr) → s ≡ c → p ≡ q → q ≡ e → AfterSteps 1 a None (beginning c e) → Makes had had 1 a (beginning s p)
part_begun had a s c p q e same is also goes =
    subst (λ x. Makes had had 1 a (beginning x p)) (sym same) (subst (λ y. Makes had had 1 a (beginning c y)) (sym (is ∙ also))
    (record { made = 1; fewer = omega arith; counted = omega arith; goes = goes }))

-- a step at which the thread pauses
pub reaches_stop : (had : ℕ) (a : Strand) (next : Pending) (c : Strand) → IsNotEnd next → AfterSteps 1 a (Some next) c → Reaches had had a part.Stops c
reaches_stop had a next c on stops = (refl, (next, on, stops))

-- a consequence for a value, if there is one
pub ok_then : {X E : Type 0} (r : Result X E) (P Q : X → Type 0) → IfOk r P → ((x : X) → P x → Q x) → IfOk r Q
ok_then (Ok x) P Q h f = f x h
ok_then (Err e) P Q h f = tt

pub ok_both : {X E : Type 0} (r : Result X E) (L P Q : X → Type 0) → IfOk r L → IfOk r P → ((x : X) → L x → P x → Q x) → IfOk r Q
ok_both (Ok x) L P Q l h f = f x l h
ok_both (Err e) L P Q l h f = tt
