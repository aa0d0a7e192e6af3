-- A step that begins an expression doesn't change the result of the thread.
use Rattle.std.proofs.Common.{◌≡◌, ℕ, ◌+◌, ◌-◌, List, [], ◌∷◌, ◌++◌, length, None, refl, ap, sym, ◌∙◌, arith, subst, append-nil, slice_index, nat_lt, ◌==◌, if◌then◌else◌, Bool}
use Rattle.std.specs.Borrow.{Bor}
use Rattle.arachne_program.specs.declared.check_fault.CheckFault.TheVariants as fault
use Rattle.arachne_program.specs.declared.program.{Expr.Expr, Operation.Operation, Reduction.Reduction}
use Rattle.arachne_program.specs.Tree.{Tree, Number, Variable, Length, Item, Binary, Choose, Bind, Tally, Hold, Fold, Sweep, Source}
use Rattle.arachne_program.specs.{Program.{source_of, tree_of}, Value.{apply, value_of, array_at, with_newest}}
use Rattle.arachne_program.specs.Effects.{Reduce, ◌⨾◌, tallied, held, effects_of, task_effects}
use Rattle.arachne_program.specs.Checked.{node_faults, unless}
use Rattle.arachne_machine.specs.{declared.frame.{Frame.Frame, Control.Control}, Strands.Strand, Work.work_of}
use Rattle.arachne_machine.specs.declared.frame.Frame.TheVariants.{Index, Right, Apply, Branch, Extend, Amount, Release, FoldTo, SweepTo}
use Rattle.arachne_machine.specs.{declared.frame.Control.TheVariants.{Begin, Give, Asks}, Trace.{with_steps, trace_of}}
use Rattle.arachne_machine.specs.{Pure.{IsLeaf, IsPure}, Turns.folded_effects, Account.{Account, after}}
use Rattle.arachne_machine.specs.Ending.{resume, resume_account, resume_work, resume_trace, begun, begun_account, begun_work, begun_trace, fork_awaited, forks_of, releases, frames_left}
use Rattle.arachne_machine.specs.{Faultless.{IsFaultless, GoesWithoutFault}, Steps.{Becomes, AfterSteps}}
use Rattle.arachne_machine.proofs.{Accounts.{after-nothing, after-sequence}, Frames.with_steps-add}
use Rattle.arachne_machine.proofs.Faultlessness.{no_faults-append, unless_none, or_else_none, less}
use Rattle.arachne_machine.proofs.Purity.{binary_pure, leaf_pure, leaf_work}
use Rattle.arachne_machine.proofs.Outlooks.{StepOutlook, Step, steps_by, framed_as, alone, none_here, none_kept, nothing_first}
use Rattle.arachne_machine.specs.Trace as event

-- After this many steps of an expression these frames and this next action have the result of the expression.
pub record Opens (steps : ℕ) (source : Source) (name : List ℕ) (tree : Tree) (env : List ℕ) (k' : Control) (gs' : List Frame) : Type 0 where
  pub ending : resume source name gs' (begun source name k' env) ≡ record { env = env; value = value_of source.arrays tree env }
  pub account : (a : Account) →
      resume_account source name gs' (begun source name k' env) (begun_account source name k' env a) ≡ after name (effects_of source.arrays source.locks tree env) a
  pub work : begun_work source name k' env + resume_work source name gs' (begun source name k' env) + steps ≡ work_of source.arrays tree env
  pub trace : with_steps steps (begun_trace source name k' env ++ resume_trace source name gs' (begun source name k' env)) ≡ trace_of source.arrays tree env
  pub faultless : (held : Bool) → IsFaultless source held tree → GoesWithoutFault source held gs' k'

opened : (steps : ℕ) (source : Source) (name : List ℕ) (expr : Bor Expr) (env : List ℕ) (k' : Control) (gs' : List Frame) → Opens steps source name (tree_of expr.now) env k' gs' →
    StepOutlook steps source name (Begin expr) [] env k' gs' env
opened steps source name expr env k' gs' o = record {
  ending = o.ending;
  account = λ a any. o.account a;
  work = omega (arith, o.work);
  trace = o.trace ∙ sym (append-nil (trace_of source.arrays (tree_of expr.now) env));
  faultless = λ held h. o.faultless held h.1;
}

-- such steps of a thread
pub begins_by : (steps : ℕ) (old new : Strand) (expr : Bor Expr) (tree : Tree) (k' : Control) (gs' : List Frame) → old.control ≡ Begin expr → tree_of expr.now ≡ tree →
    Becomes old new old.environment (old.frames ++ gs') k' →
    ((fs : List Frame) → frames_left k' fs ≡ fs) →
    fork_awaited k' ++ forks_of gs' ≡ [] →
    Opens steps (source_of old.program.now) old.own.name tree old.environment k' gs' → Step steps (Begin expr) k' old.frames [] gs' old new
begins_by steps old new expr tree k' gs' begins is_tree b left forks o =
    let source = source_of old.program.now in
    let name = old.own.name in
    let fs = old.frames in
    let env = old.environment in
    let same = subst (λ t. Opens steps source name t env k' gs') (sym is_tree) o in
    steps_by steps old old new (Begin expr) k' fs [] gs' env env
    (framed_as old old env (fs ++ []) (fs ++ []) old.control (Begin expr) (alone old old env old.control assumption) refl begins)
    b refl (left (fs ++ gs')) forks (none_here gs' (nothing_first (fork_awaited k') (forks_of gs') forks).1) (λ h. none_kept source name k' gs' env forks)
    (opened steps source name expr env k' gs' same)

pub goes_to_value : (steps : ℕ) (old new : Strand) (expr : Bor Expr) (tree : Tree) (v : ℕ) → old.control ≡ Begin expr → tree_of expr.now ≡ tree →
    Becomes old new old.environment old.frames (Give v) →
    Opens steps (source_of old.program.now) old.own.name tree old.environment (Give v) [] → AfterSteps steps old None new
goes_to_value steps old new expr tree v begins is_tree b o =
    let s = begins_by steps old new expr tree (Give v) [] begins is_tree (alone old new old.environment (Give v) b) (λ fs. refl) refl o in
    (s.goes, s.pending, s.locks ∙ sym s.old_locks)

pub goes_to_part : (steps : ℕ) (old new : Strand) (expr part : Bor Expr) (tree : Tree) (f : Frame) → old.control ≡ Begin expr → tree_of expr.now ≡ tree →
    Becomes old new old.environment (old.frames ++ f ∷ []) (Begin part) → forks_of (f ∷ []) ≡ [] → releases (f ∷ []) ≡ [] →
    Opens steps (source_of old.program.now) old.own.name tree old.environment (Begin part) (f ∷ []) → AfterSteps steps old None new
goes_to_part steps old new expr part tree f begins is_tree b forks locks o =
    let s = begins_by steps old new expr tree (Begin part) (f ∷ []) begins is_tree b (λ fs. refl) forks o in
    (s.goes, s.pending, s.locks ∙ ap (λ l. l ++ releases old.frames) locks ∙ sym s.old_locks)

pub open_number : (source : Source) (name : List ℕ) (env : List ℕ) (n : ℕ) → Opens 0 source name (Number n) env (Give n) []
open_number source name env n = record { ending = refl; account = λ a. sym (after-nothing name a); work = omega arith; trace = refl; faultless = λ held h. (tt, tt) }

pub open_variable : (source : Source) (name : List ℕ) (env : List ℕ) (n : ℕ) → Opens 0 source name (Variable n) env (Give (slice_index env n)) []
open_variable source name env n = record { ending = refl; account = λ a. sym (after-nothing name a); work = omega arith; trace = refl; faultless = λ held h. (tt, tt) }

pub open_length : (source : Source) (name : List ℕ) (env : List ℕ) (n : ℕ) → Opens 0 source name (Length n) env (Give (length (array_at source.arrays n))) []
open_length source name env n = record { ending = refl; account = λ a. sym (after-nothing name a); work = omega arith; trace = refl; faultless = λ held h. (tt, tt) }

pub open_item : (source : Source) (name : List ℕ) (env : List ℕ) (n : ℕ) (index : Bor Expr) →
    Opens 1 source name (Item n (tree_of index.now)) env (Begin index) (Index n ∷ [])
open_item source name env n index = record { ending = refl; account = λ a. refl; work = omega arith; trace = ap (with_steps 1) (append-nil (trace_of source.arrays (tree_of index.now) env)); faultless = λ held h. ((tt, tt), (h.0, h.1.1)) }

pub open_binary : (source : Source) (name : List ℕ) (env : List ℕ) (operation : Operation) (left right : Bor Expr) →
    Opens 1 source name (Binary operation (tree_of left.now) (tree_of right.now)) env (Begin left) (Right operation right ∷ [])
open_binary source name env operation left right = record {
  ending = refl;
  account = λ a. sym (after-sequence name (effects_of source.arrays source.locks (tree_of left.now) env) (effects_of source.arrays source.locks (tree_of right.now) env) a);
  work = omega arith;
  trace = refl;
  faultless = λ held h.
      let parts = no_faults-append (node_faults source held h.0 (tree_of left.now)) (node_faults source held h.0 (tree_of right.now)) h.1.1 in
      (((h.0, parts.1), tt), (h.0, parts.0));
}

-- an operation whose left side is a leaf, and one whose both sides are
leaf_traced : (source : Source) (t : Tree) (env : List ℕ) → IsLeaf t → trace_of source.arrays t env ≡ event.Step ∷ []
leaf_traced source t env leaf = (leaf_pure source t env leaf).trace ∙ ap (λ n. with_steps n []) (leaf_work source.arrays t env leaf)

pub open_right : (source : Source) (name : List ℕ) (env : List ℕ) (operation : Operation) (left right : Bor Expr) → IsLeaf (tree_of left.now) →
    Opens 2 source name (Binary operation (tree_of left.now) (tree_of right.now)) env (Begin right) (Apply operation (value_of source.arrays (tree_of left.now) env) ∷ [])
open_right source name env operation left right leaf =
    let x = effects_of source.arrays source.locks (tree_of left.now) env in
    let y = effects_of source.arrays source.locks (tree_of right.now) env in
    record {
      ending = refl;
      account = λ a. ap (after name y) (sym (after-nothing name a) ∙ ap (λ e. after name e a) (sym (leaf_pure source (tree_of left.now) env leaf).effects))
          ∙ sym (after-sequence name x y a);
      work = omega (arith, leaf_work source.arrays (tree_of left.now) env leaf);
      trace = ap (with_steps 2) (append-nil (trace_of source.arrays (tree_of right.now) env))
          ∙ ap (λ l. event.Step ∷ (l ++ trace_of source.arrays (tree_of right.now) env)) (sym (leaf_traced source (tree_of left.now) env leaf));
      faultless = λ held h.
          let parts = no_faults-append (node_faults source held h.0 (tree_of left.now)) (node_faults source held h.0 (tree_of right.now)) h.1.1 in
          ((tt, tt), (h.0, parts.1));
    }

-- a pure expression has its value at once
pub open_pure : (source : Source) (name : List ℕ) (env : List ℕ) (t : Tree) (steps : ℕ) → IsPure source t env → steps + 1 ≡ work_of source.arrays t env →
    Opens steps source name t env (Give (value_of source.arrays t env)) []
open_pure source name env t steps pure counted = record {
  ending = refl;
  account = λ a. sym (after-nothing name a) ∙ ap (λ e. after name e a) (sym pure.effects);
  work = omega (arith, counted);
  trace = sym (with_steps-add steps 1 []) ∙ ap (λ n. with_steps n []) counted ∙ sym pure.trace;
  faultless = λ held h. (tt, tt);
}

pub open_choice : (source : Source) (name : List ℕ) (env : List ℕ) (condition first second : Bor Expr) →
    Opens 1 source name (Choose (tree_of condition.now) (tree_of first.now) (tree_of second.now)) env (Begin condition) (Branch first second ∷ [])
open_choice source name env condition first second = record {
  ending = refl;
  account = λ a. sym (after-sequence name (effects_of source.arrays source.locks (tree_of condition.now) env)
      (if value_of source.arrays (tree_of condition.now) env == 0 then effects_of source.arrays source.locks (tree_of second.now) env
      else effects_of source.arrays source.locks (tree_of first.now) env) a);
  work = omega arith;
  trace = refl;
  faultless = λ held h.
      let within = node_faults source held h.0 in
      let parts = no_faults-append (within (tree_of condition.now) ++ within (tree_of first.now)) (within (tree_of second.now)) h.1.1 in
      let both = no_faults-append (within (tree_of condition.now)) (within (tree_of first.now)) parts.0 in
      ((((h.0, both.1), (h.0, parts.1)), tt), (h.0, both.0));
}

pub open_binding : (source : Source) (name : List ℕ) (env : List ℕ) (bound body : Bor Expr) →
    Opens 1 source name (Bind (tree_of bound.now) (tree_of body.now)) env (Begin bound) (Extend body ∷ [])
open_binding source name env bound body = record {
  ending = refl;
  account = λ a. sym (after-sequence name (effects_of source.arrays source.locks (tree_of bound.now) env)
      (effects_of source.arrays source.locks (tree_of body.now) (with_newest env (value_of source.arrays (tree_of bound.now) env))) a);
  work = omega arith;
  trace = refl;
  faultless = λ held h.
      let parts = no_faults-append (node_faults source held h.0 (tree_of bound.now)) (node_faults source held (h.0 + 1) (tree_of body.now)) h.1.1 in
      (((h.0 + 1, parts.1), tt), (h.0, parts.0));
}

pub open_tally : (source : Source) (name : List ℕ) (env : List ℕ) (ledger : ℕ) (amount body : Bor Expr) →
    Opens 1 source name (Tally ledger (tree_of amount.now) (tree_of body.now)) env (Begin amount) (Amount ledger body ∷ [])
open_tally source name env ledger amount body =
    let e = effects_of source.arrays source.locks (tree_of amount.now) env in
    let t = tallied ledger (value_of source.arrays (tree_of amount.now) env) in
    let b = effects_of source.arrays source.locks (tree_of body.now) env in
    record {
      ending = refl;
      account = λ a. ap (after name b) (sym (after-sequence name e t a)) ∙ sym (after-sequence name (e ⨾ t) b a);
      work = omega arith;
      trace = refl;
      faultless = λ held h.
          let parts = no_faults-append (node_faults source held h.0 (tree_of amount.now)) (node_faults source held h.0 (tree_of body.now)) h.1.1 in
          let there = less ledger source.ledgers (unless_none (nat_lt ledger source.ledgers) fault.NoLedger h.1.0) in
          (((there, (h.0, parts.1)), tt), (h.0, parts.0));
    }

pub open_hold : (source : Source) (name : List ℕ) (env : List ℕ) (lock : ℕ) (body : Bor Expr) →
    Opens 1 source name (Hold lock (tree_of body.now)) env (Asks lock body) (Release lock ∷ [])
open_hold source name env lock body = record {
  ending = refl;
  account = λ a. sym (after-sequence name (held lock) (effects_of source.arrays source.locks (tree_of body.now) env) a);
  work = omega arith;
  trace = refl;
  faultless = λ held h.
      let judged = or_else_none held fault.WithinHold (unless (nat_lt lock source.locks) fault.NoLock) h.1.0 in
      let there = less lock source.locks (unless_none (nat_lt lock source.locks) fault.NoLock judged.1) in
      (((judged.0, there), tt), (there, (h.0, h.1.1)));
}

pub open_fold : (source : Source) (name : List ℕ) (env : List ℕ) (from to first body : Bor Expr) →
    Opens 1 source name (Fold (tree_of from.now) (tree_of to.now) (tree_of first.now) (tree_of body.now)) env (Begin from) (FoldTo to first body ∷ [])
open_fold source name env from to first body =
    let A = source.arrays in
    let e = effects_of A source.locks (tree_of from.now) env in
    let f = effects_of A source.locks (tree_of to.now) env in
    let g = effects_of A source.locks (tree_of first.now) env in
    let v = value_of A (tree_of from.now) env in
    let h = folded_effects A source.locks (tree_of body.now) env v (value_of A (tree_of to.now) env - v) (value_of A (tree_of first.now) env) in
    record {
      ending = refl;
      account = λ a. ap (λ x. after name h (after name g x)) (sym (after-sequence name e f a))
          ∙ ap (after name h) (sym (after-sequence name (e ⨾ f) g a))
          ∙ sym (after-sequence name (e ⨾ f ⨾ g) h a);
      work = omega arith;
      trace = refl;
      faultless = λ held h.
          let within = node_faults source held h.0 in
          let turn = node_faults source held (h.0 + 2) (tree_of body.now) in
          let parts = no_faults-append (within (tree_of from.now) ++ within (tree_of to.now) ++ within (tree_of first.now)) turn h.1.1 in
          let others = no_faults-append (within (tree_of from.now) ++ within (tree_of to.now)) (within (tree_of first.now)) parts.0 in
          let bounds = no_faults-append (within (tree_of from.now)) (within (tree_of to.now)) others.0 in
          ((((h.0, bounds.1), (h.0, others.1), (h.0 + 2, parts.1)), tt), (h.0, bounds.0));
    }

pub open_sweep : (source : Source) (name : List ℕ) (env : List ℕ) (reduction : Reduction) (grain : ℕ) (from to body : Bor Expr) →
    Opens 1 source name (Sweep reduction grain (tree_of from.now) (tree_of to.now) (tree_of body.now)) env (Begin from) (SweepTo reduction grain to body ∷ [])
open_sweep source name env reduction grain from to body =
    let A = source.arrays in
    let e = effects_of A source.locks (tree_of from.now) env in
    let f = effects_of A source.locks (tree_of to.now) env in
    let v = value_of A (tree_of from.now) env in
    let h = task_effects A source.locks (Reduce reduction grain (tree_of body.now) env v (value_of A (tree_of to.now) env - v)) in
    record {
      ending = refl;
      account = λ a. ap (after name h) (sym (after-sequence name e f a)) ∙ sym (after-sequence name (e ⨾ f) h a);
      work = omega arith;
      trace = refl;
      faultless = λ held h.
          let judged = or_else_none held fault.WithinHold (unless (nat_lt 0 grain) fault.NoGrain) h.1.0 in
          let within = node_faults source held h.0 in
          let turn = node_faults source held (h.0 + 1) (tree_of body.now) in
          let parts = no_faults-append (within (tree_of from.now) ++ within (tree_of to.now)) turn h.1.1 in
          let bounds = no_faults-append (within (tree_of from.now)) (within (tree_of to.now)) parts.0 in
          (((judged.0, (h.0, bounds.1), (h.0 + 1, parts.1)), tt), (h.0, bounds.0));
    }

-- An operation is begun with its left side, if that is a leaf, or with both sides.
pub begins_right : (old new : Strand) (expr first second : Bor Expr) (operation : Operation) (x : ℕ) → old.control ≡ Begin expr →
    tree_of expr.now ≡ Binary operation (tree_of first.now) (tree_of second.now) → IsLeaf (tree_of first.now) →
    x ≡ value_of (source_of old.program.now).arrays (tree_of first.now) old.environment →
    Becomes old new old.environment (old.frames ++ Apply operation x ∷ []) (Begin second) → AfterSteps 2 old None new
begins_right old new expr first second operation x begins is_tree leaf is b =
    let source = source_of old.program.now in
    let env = old.environment in
    let fs = old.frames in
    let v = value_of source.arrays (tree_of first.now) env in
    goes_to_part 2 old new expr second (Binary operation (tree_of first.now) (tree_of second.now)) (Apply operation v) begins is_tree
    (framed_as old new env (fs ++ Apply operation x ∷ []) (fs ++ Apply operation v ∷ []) (Begin second) (Begin second) b (ap (λ n. fs ++ Apply operation n ∷ []) is) refl) refl refl
    (open_right source old.own.name env operation first second leaf)

pub begins_both : (old new : Strand) (expr first second : Bor Expr) (operation : Operation) (x y v : ℕ) → old.control ≡ Begin expr →
    tree_of expr.now ≡ Binary operation (tree_of first.now) (tree_of second.now) → IsLeaf (tree_of first.now) → IsLeaf (tree_of second.now) →
    x ≡ value_of (source_of old.program.now).arrays (tree_of first.now) old.environment →
    y ≡ value_of (source_of old.program.now).arrays (tree_of second.now) old.environment → v ≡ apply operation x y →
    Becomes old new old.environment old.frames (Give v) → AfterSteps 2 old None new
begins_both old new expr first second operation x y v begins is_tree one two is also made b =
    let source = source_of old.program.now in
    let A = source.arrays in
    let env = old.environment in
    let fs = old.frames in
    let a = tree_of first.now in
    let c = tree_of second.now in
    let whole : v ≡ value_of A (Binary operation a c) env = made ∙ ap (λ n. apply operation n y) is ∙ ap (λ n. apply operation (value_of A a env) n) also in
    goes_to_value 2 old new expr (Binary operation a c) (value_of A (Binary operation a c) env) begins is_tree
    (framed_as old new env fs fs (Give v) (Give (value_of A (Binary operation a c) env)) b refl (ap Give whole))
    (open_pure source old.own.name env (Binary operation a c) 2 (binary_pure source env operation a c (leaf_pure source a env one) (leaf_pure source c env two)) (omega (arith, leaf_work A a env one, leaf_work A c env two)))
