-- The tasks to which names lead.
use Rattle.std.proofs.Common.{◌≡◌, ℕ, List, [], ◌∷◌, ◌++◌, Option, None, Some, refl, ap, ◌∙◌, length, arith, length-append, option_and_then, option_map, slice_get}
use Rattle.std.proofs.{lemmas.Option.slice_get-get_or, Math.Seq.get_or-append_seam}
use Rattle.arachne_program.specs.Effects.{Task, Child, task_effects, task_below}

then_some : (o : Option Child) → option_and_then (λ child. Some child.task) o ≡ option_map (λ child. child.task) o
then_some None = refl
then_some (Some child) = refl

same_some : (x y : Task) → Some x ≡ Some y → x ≡ y
same_some x y h = cc

-- the child of a thread is the child of that number of its task
pub task_below-child : (arrays : List (List ℕ)) (locks : ℕ) (from : Task) (name : List ℕ) (k : ℕ) (task : Task) →
    task_below arrays locks from name ≡ Some task → task_below arrays locks from (name ++ k ∷ []) ≡ option_map (λ child. child.task) (slice_get (task_effects arrays locks task).children k)
task_below-child arrays locks from [] k task h =
    then_some (slice_get (task_effects arrays locks from).children k) ∙ ap (λ t. option_map (λ child. child.task) (slice_get (task_effects arrays locks t).children k)) (same_some from task h)
task_below-child arrays locks from (j ∷ name) k task h =
    elim (slice_get (task_effects arrays locks from).children j) as
    (λ o. option_and_then (λ child. task_below arrays locks child.task name) o ≡ Some task →
    option_and_then (λ child. task_below arrays locks child.task (name ++ k ∷ [])) o ≡ option_map (λ child. child.task) (slice_get (task_effects arrays locks task).children k)) [
      | None ↦ λ e. cc
      | Some child ↦ λ e. task_below-child arrays locks child.task name k task e
    ] h

pub slice_get-seam : (xs : List Child) (y : Child) (ys : List Child) → slice_get (xs ++ y ∷ ys) (length xs) ≡ Some y
slice_get-seam xs y ys =
    slice_get-get_or (xs ++ y ∷ ys) (length xs) y (omega (arith, length-append xs (y ∷ ys))) ∙ ap (λ t. Some t) (get_or-append_seam xs y ys y)
