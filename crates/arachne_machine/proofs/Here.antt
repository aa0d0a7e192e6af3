-- A child that will run here begins, and is joined.
use Rattle.std.proofs.Common.{◌≡◌, ℕ, List, [], ◌∷◌, ◌++◌, false, Some, refl, ap, subst, sym, ◌∙◌, arith, append-nil}
use Rattle.std.specs.Borrow.{Bor}
use Rattle.arachne_program.specs.{declared.program.Expr.Expr, Program.{source_of, tree_of}, Effects.Evaluate}
use Rattle.arachne_program.specs.Meaning.{task_of}
use Rattle.arachne_machine.specs.{declared.frame.{Stretch.Stretch, Frame.Frame, Control.Control}, Trace.with_steps}
use Rattle.arachne_machine.specs.{declared.frame.Frame.TheVariants.{JoinHere, MergeHere}, Work.{work_of, task_work}}
use Rattle.arachne_machine.specs.declared.frame.Control.TheVariants.{Begin, Cover, Give, Awaits, AwaitsHalf}
use Rattle.arachne_machine.specs.Ending.{stretch_task, fork_awaited, forks_of, forks_here, lock_freed, releases, frames_left, KeepsForks}
use Rattle.arachne_machine.specs.Faultless.{IsFaultless, IsFaultlessFrame, IsFaultlessNext, IsWithoutFault, held_by}
use Rattle.arachne_machine.specs.{Strands.Strand, Steps.{AwaitsHere, Becomes, IsPopped, pending_of}}
use Rattle.arachne_machine.proofs.Faultlessness.{faultless-append}
use Rattle.arachne_machine.proofs.Outlooks.{Any, faultless_at, SameOutlook, KeepsTop, itself, at_of, alone, given_off, same_end, unjoined_at, here_at, locks_at, keeps_at}
use Rattle.arachne_machine.specs.declared.pause.Pending.TheVariants as pause

awaits_by : (before mid new : Strand) (v number handed : ℕ) (f : Frame) (k' : Control) → IsPopped f before mid → mid.control ≡ Give v →
    Becomes mid new mid.environment mid.frames k' → ((fs : List Frame) → frames_left k' fs ≡ fs) →
    fork_awaited k' ≡ number ∷ [] → forks_of (f ∷ []) ≡ number ∷ [] → forks_here (f ∷ []) ≡ number ∷ [] → lock_freed k' ++ [] ≡ [] ++ releases (f ∷ []) → pending_of k' ≡ Some pause.Joins →
    (KeepsTop (source_of mid.program.now) mid.own.name (Give v) (f ∷ []) mid.environment → KeepsTop (source_of mid.program.now) mid.own.name k' [] mid.environment) →
    SameOutlook 1 handed [] Any itself (source_of mid.program.now) mid.own.name (Give v) (f ∷ []) mid.environment k' [] mid.environment → AwaitsHere number handed before new
awaits_by before mid new v number handed f k' popped gives b left awaits forks here locks pending keep same =
    let source = source_of mid.program.now in
    let name = mid.own.name in
    let fs = mid.frames in
    let env = mid.environment in
    let on = alone mid new env k' b in
    let at = at_of mid before (Give v) (fs ++ f ∷ []) env (given_off before mid v f popped gives) in
    let at' = at_of mid new k' (fs ++ []) env on in
    let end = same_end 1 handed [] Any itself source name (Give v) k' fs (f ∷ []) [] env env before new at at' refl (left (fs ++ [])) keep same in
    record {
      program = b.program ∙ sym popped.program;
      own = b.own ∙ sym popped.own;
      below = b.below ∙ sym popped.below;
      forks = b.forks ∙ sym popped.forks;
      unjoined = unjoined_at source name k' fs [] env new at' ∙ ap (λ l. (l ++ []) ++ forks_of fs) awaits ∙ ap (λ l. l ++ forks_of fs) (sym forks)
          ∙ sym (unjoined_at source name (Give v) fs (f ∷ []) env before at);
      here = here_at source name (Give v) fs (f ∷ []) env before at ∙ ap (λ l. l ++ forks_here fs) here ∙ ap (λ l. number ∷ l) (sym (here_at source name k' fs [] env new at'));
      locks = locks_at source name k' fs [] env new at' ∙ ap (λ l. l ++ releases fs) locks ∙ sym (locks_at source name (Give v) fs (f ∷ []) env before at);
      pending = ap pending_of b.control_is ∙ pending;
      awaited_is = ap fork_awaited b.control_is ∙ awaits;
      ending = end.ending;
      account = λ a. end.account a tt;
      work = omega (arith, end.work);
      trace = end.trace;
      faultless = end.faultless;
      keeps = end.keeps;
    }

-- the forks that the newest frame joins
kept_top : (before mid : Strand) (v : ℕ) (f : Frame) → IsPopped f before mid → mid.control ≡ Give v → KeepsForks before →
    KeepsTop (source_of mid.program.now) mid.own.name (Give v) (f ∷ []) mid.environment
kept_top before mid v f popped gives h =
    let fs = mid.frames in
    let env = mid.environment in
    let kept = keeps_at (source_of mid.program.now) mid.own.name (Give v) fs (f ∷ []) env before (at_of mid before (Give v) (fs ++ f ∷ []) env (given_off before mid v f popped gives)) refl h in
    (kept.0, kept.1)

pub awaits_join : (before mid new : Strand) (v number : ℕ) (child next : Bor Expr) → IsPopped (JoinHere number child next) before mid → mid.control ≡ Give v →
    Becomes mid new mid.environment mid.frames (Awaits number v next) →
    AwaitsHere number (work_of (source_of mid.program.now).arrays (tree_of child.now) mid.environment) before new
awaits_join before mid new v number child next popped gives b =
    let source = source_of mid.program.now in
    let env = mid.environment in
    awaits_by before mid new v number (work_of source.arrays (tree_of child.now) env) (JoinHere number child next) (Awaits number v next) popped gives b
    (λ fs. refl) refl refl refl refl refl
    (λ h. (record { task = Evaluate (tree_of child.now) env; has_task = h.1.0; environment = refl }, tt))
    (record { ending = refl; account = λ a any. refl; work = omega arith; trace = ap (with_steps 1) (append-nil _); faultless = λ held h. (tt, (h.0.0.0, h.0.0.2)) })

-- the task of its child is that of the program
pub join_task : (before mid : Strand) (v number : ℕ) (child next : Bor Expr) → IsPopped (JoinHere number child next) before mid → mid.control ≡ Give v → KeepsForks before →
    task_of (source_of mid.program.now) (mid.own.name ++ number ∷ []) ≡ Some (Evaluate (tree_of child.now) mid.environment)
join_task before mid v number child next popped gives h = (kept_top before mid v (JoinHere number child next) popped gives h).1.0

pub awaits_half : (before mid new : Strand) (v number : ℕ) (left : Stretch) → IsPopped (MergeHere number left) before mid → mid.control ≡ Give v →
    Becomes mid new mid.environment mid.frames (AwaitsHalf number v left.reduction) →
    AwaitsHere number (task_work (source_of mid.program.now).arrays (stretch_task left mid.environment)) before new
awaits_half before mid new v number left popped gives b =
    let source = source_of mid.program.now in
    let env = mid.environment in
    awaits_by before mid new v number (task_work source.arrays (stretch_task left env)) (MergeHere number left) (AwaitsHalf number v left.reduction) popped gives b
    (λ fs. refl) refl refl refl refl refl
    (λ h. (record { task = stretch_task left env; has_task = h.1.0; environment = refl }, tt))
    (record { ending = refl; account = λ a any. refl; work = omega arith; trace = refl; faultless = λ held h. (tt, h.0.0.0) })

pub half_task : (before mid : Strand) (v number : ℕ) (left : Stretch) → IsPopped (MergeHere number left) before mid → mid.control ≡ Give v → KeepsForks before →
    task_of (source_of mid.program.now) (mid.own.name ++ number ∷ []) ≡ Some (stretch_task left mid.environment)
half_task before mid v number left popped gives h = (kept_top before mid v (MergeHere number left) popped gives h).1.0

-- the expression that a frame begins has no fault if the thread has none
freed_top : (before mid : Strand) (v : ℕ) (f : Frame) → IsPopped f before mid → mid.control ≡ Give v → IsWithoutFault before →
    IsFaultlessFrame (source_of mid.program.now) (held_by false mid.frames) f
freed_top before mid v f popped gives h =
    let source = source_of mid.program.now in
    let fs = mid.frames in
    let env = mid.environment in
    let whole = faultless_at source mid.own.name (Give v) (fs ++ f ∷ []) env before (at_of mid before (Give v) (fs ++ f ∷ []) env (given_off before mid v f popped gives)) h in
    (faultless-append source false fs (f ∷ []) whole.0).1.0

pub join_free : (before mid : Strand) (v number : ℕ) (child next : Bor Expr) → IsPopped (JoinHere number child next) before mid → mid.control ≡ Give v → IsWithoutFault before →
    IsFaultlessNext (source_of mid.program.now) false (Begin child)
join_free before mid v number child next popped gives h =
    let free = freed_top before mid v (JoinHere number child next) popped gives h in
    subst (λ b. IsFaultless (source_of mid.program.now) b (tree_of child.now)) free.0 free.1

pub half_free : (before mid : Strand) (v number : ℕ) (left : Stretch) → IsPopped (MergeHere number left) before mid → mid.control ≡ Give v → IsWithoutFault before →
    IsFaultlessNext (source_of mid.program.now) false (Cover left)
half_free before mid v number left popped gives h =
    let free = freed_top before mid v (MergeHere number left) popped gives h in
    (refl, subst (λ b. IsFaultless (source_of mid.program.now) b (tree_of left.body.now)) free.0 free.1)
