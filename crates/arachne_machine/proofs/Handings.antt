-- A step that hands a value on doesn't change the result of the thread.
use Rattle.std.proofs.Common.{◌≡◌, ◌≢◌, ◌≤◌, ◌<◌, ℕ, ◌+◌, ◌-◌, List, [], ◌∷◌, ◌++◌, length, length-append, None, Some, inl, inr, refl, ap, sym, ◌∙◌, arith, subst, append_assoc, take, Bool, true, false, rules, slice_index, ◌==◌, if◌then◌else◌, max, append-nil}
use Rattle.std.{specs.Borrow.Bor, proofs.{lemmas.Bool.cases_lt, Math.Seq.take-append_seam}}
use Rattle.arachne_program.specs.{Effects.effects_of, Program.{source_of, tree_of}, Tree.{Tree, Source}}
use Rattle.arachne_program.specs.Value.{apply, operation_of, unit_of, value_of, array_at, with_newest}
use Rattle.arachne_program.specs.declared.program.{Expr.Expr, Operation.Operation, Reduction.Reduction}
use Rattle.arachne_machine.specs.{declared.frame.{Stretch.Stretch, Frame.Frame, Control.Control}, Strands.Strand}
use Rattle.arachne_machine.specs.declared.frame.Frame.TheVariants.{Index, Right, Apply, Branch, Extend, Amount, Release, Join, Merge, FoldTo, FoldFirst, FoldStart, FoldTurn, SweepTo, SweepStart, SweepTurn, Restore}
use Rattle.arachne_machine.specs.declared.frame.Control.TheVariants.{Begin, Give, Cover, Awaits, AwaitsHalf, Frees, Tallies, Ended}
use Rattle.arachne_machine.specs.{Account.{Account, after}, Work.work_of, Trace.{with_steps, trace_of}}
use Rattle.arachne_machine.specs.Turns.{folded, folded_effects, folded_work, folded_trace, swept, swept_effects, swept_work, swept_trace}
use Rattle.arachne_machine.specs.Ending.{Status, resume, resume_account, resume_work, resume_trace, begun, begun_account, begun_work, begun_trace, fork_awaited, lock_freed, forks_of, forks_here, releases, frames_left, without_newest}
use Rattle.arachne_machine.specs.Faultless.{IsFaultless, GoesWithoutFault}
use Rattle.arachne_machine.specs.Steps.{Becomes, IsUnchanged, IsPopped, Enters, Goes, GoesWithin, TurnsFold, TurnsSweep, AfterSteps, pending_of, giving}
use Rattle.arachne_machine.proofs.Halves.{effects_whole, work_whole, trace_whole}
use Rattle.arachne_machine.proofs.Ranges.{folded-turn, folded-done, folded_effects-turn, folded_effects-done, folded_work-turn, folded_work-done, folded_trace-turn, folded_trace-done, swept-turn, swept-done, swept_effects-turn, swept_effects-done, swept_work-turn, swept_work-done, swept_trace-turn, swept_trace-done}
use Rattle.arachne_machine.proofs.Outlooks.{KeepsTop, StepOutlook, Step, at_of, work_at, steps_by, goes_on_by, framed_as, reshaped, later, alone, as_giving, given_off}
use Rattle.arachne_machine.specs.declared.pause.Pending.TheVariants as pause
use Rattle.arachne_machine.specs.Trace as event

-- The frame to which a value is handed is taken off, and the thread goes on with this next action, or with a new frame.
pub hands_on : (steps : ℕ) (before mid new : Strand) (v : ℕ) (f : Frame) (k' : Control) → IsPopped f before mid → mid.control ≡ Give v →
    Becomes mid new mid.environment mid.frames k' → ((fs : List Frame) → frames_left k' fs ≡ fs) →
    [] ++ forks_of (f ∷ []) ≡ [] → fork_awaited k' ++ [] ≡ [] → lock_freed k' ++ [] ≡ [] ++ releases (f ∷ []) → pending_of k' ≡ None →
    StepOutlook steps (source_of mid.program.now) mid.own.name (Give v) (f ∷ []) mid.environment k' [] mid.environment → AfterSteps steps before None new
hands_on steps before mid new v f k' popped gives b left none none' locks pending same =
    let fs = mid.frames in
    let env = mid.environment in
    goes_on_by steps mid before new (Give v) k' fs (f ∷ []) [] env env
    (given_off before mid v f popped gives)
    (alone mid new env k' b) refl (left (fs ++ [])) none none' locks pending same

pub hands_to_part : (before mid new : Strand) (v : ℕ) (f g : Frame) (env' : List ℕ) (part : Bor Expr) → IsPopped f before mid → mid.control ≡ Give v →
    Becomes mid new env' (mid.frames ++ g ∷ []) (Begin part) →
    [] ++ forks_of (f ∷ []) ≡ [] → [] ++ forks_of (g ∷ []) ≡ [] → releases (g ∷ []) ≡ releases (f ∷ []) →
    StepOutlook 1 (source_of mid.program.now) mid.own.name (Give v) (f ∷ []) mid.environment (Begin part) (g ∷ []) env' → AfterSteps 1 before None new
hands_to_part before mid new v f g env' part popped gives b none none' locks same =
    let fs = mid.frames in
    let env = mid.environment in
    goes_on_by 1 mid before new (Give v) (Begin part) fs (f ∷ []) (g ∷ []) env env'
    (given_off before mid v f popped gives)
    b refl refl none none' locks refl same

-- The thread stops at the frame.
pub hands_to_stop : (before mid new : Strand) (v : ℕ) (f : Frame) (k' : Control) → IsPopped f before mid → mid.control ≡ Give v →
    Becomes mid new mid.environment mid.frames k' → ((fs : List Frame) → frames_left k' fs ≡ fs) →
    fork_awaited k' ++ [] ≡ [] ++ forks_of (f ∷ []) → [] ≡ forks_here (f ∷ []) →
    (KeepsTop (source_of mid.program.now) mid.own.name (Give v) (f ∷ []) mid.environment → KeepsTop (source_of mid.program.now) mid.own.name k' [] mid.environment) →
    StepOutlook 1 (source_of mid.program.now) mid.own.name (Give v) (f ∷ []) mid.environment k' [] mid.environment →
    Step 1 (Give v) k' mid.frames (f ∷ []) [] before new
hands_to_stop before mid new v f k' popped gives b left forks here keep same =
    let fs = mid.frames in
    let env = mid.environment in
    steps_by 1 mid before new (Give v) k' fs (f ∷ []) [] env env
    (given_off before mid v f popped gives)
    (alone mid new env k' b) refl (left (fs ++ [])) forks here keep same

-- Frames that need no pause and no iteration.
pub hand_index : (before mid new : Strand) (v a w : ℕ) → IsPopped (Index a) before mid → mid.control ≡ Give v →
    w ≡ slice_index (array_at (source_of mid.program.now).arrays a) v → Becomes mid new mid.environment mid.frames (Give w) → AfterSteps 0 before None new
hand_index before mid new v a w popped gives is b =
    hands_on 0 before mid new v (Index a) (Give (slice_index (array_at (source_of mid.program.now).arrays a) v)) popped gives
    (framed_as mid new mid.environment mid.frames mid.frames (Give w) (Give (slice_index (array_at (source_of mid.program.now).arrays a) v)) b refl (ap Give is))
    (λ fs. refl) refl refl refl refl
    (record { ending = refl; account = λ a any. refl; work = omega arith; trace = refl; faultless = λ held h. (tt, tt) })

pub hand_right : (before mid new : Strand) (v : ℕ) (operation : Operation) (right : Bor Expr) → IsPopped (Right operation right) before mid → mid.control ≡ Give v →
    Enters mid new (Apply operation v) (Begin right) → AfterSteps 1 before None new
hand_right before mid new v operation right popped gives b =
    hands_to_part before mid new v (Right operation right) (Apply operation v) mid.environment right popped gives b refl refl refl
    (record { ending = refl; account = λ a any. refl; work = omega arith; trace = ap (with_steps 1) (append-nil (trace_of (source_of mid.program.now).arrays (tree_of right.now) mid.environment)); faultless = λ held h. ((tt, tt), h.0.0) })

pub hand_apply : (before mid new : Strand) (v left w : ℕ) (operation : Operation) → IsPopped (Apply operation left) before mid → mid.control ≡ Give v →
    w ≡ apply operation left v → Becomes mid new mid.environment mid.frames (Give w) → AfterSteps 0 before None new
hand_apply before mid new v left w operation popped gives is b =
    hands_on 0 before mid new v (Apply operation left) (Give (apply operation left v)) popped gives
    (framed_as mid new mid.environment mid.frames mid.frames (Give w) (Give (apply operation left v)) b refl (ap Give is))
    (λ fs. refl) refl refl refl refl
    (record { ending = refl; account = λ a any. refl; work = omega arith; trace = refl; faultless = λ held h. (tt, tt) })

pub is_zero : (v : ℕ) → v ≡ 0 → (v == 0) ≡ true
is_zero v h = ap (λ x. x == 0) h

pub is_not_zero : (v : ℕ) → v ≢ 0 → (v == 0) ≡ false
is_not_zero v h = search rules

chosen : (source : Source) (name env : List ℕ) (v : ℕ) (first second : Bor Expr) (c : Bool) → (v == 0) ≡ c →
    StepOutlook 1 source name (Give v) (Branch first second ∷ []) env (Begin (if c then second else first)) [] env
chosen source name env v first second true is = record {
  ending = ap (λ b. record { env = env; value = if b then value_of source.arrays (tree_of second.now) env else value_of source.arrays (tree_of first.now) env }) (sym is);
  account = λ a any. ap (λ b. after name (if b then effects_of source.arrays source.locks (tree_of second.now) env else effects_of source.arrays source.locks (tree_of first.now) env) a) (sym is);
  work =
      let e = ap (λ b. if b then work_of source.arrays (tree_of second.now) env else work_of source.arrays (tree_of first.now) env) is in
      omega (arith, e);
  trace = ap (with_steps 1) (append-nil (trace_of source.arrays (tree_of second.now) env)
      ∙ ap (λ b. if b then trace_of source.arrays (tree_of second.now) env else trace_of source.arrays (tree_of first.now) env) (sym is));
  faultless = λ held h. (tt, h.0.0.1);
}
chosen source name env v first second false is = record {
  ending = ap (λ b. record { env = env; value = if b then value_of source.arrays (tree_of second.now) env else value_of source.arrays (tree_of first.now) env }) (sym is);
  account = λ a any. ap (λ b. after name (if b then effects_of source.arrays source.locks (tree_of second.now) env else effects_of source.arrays source.locks (tree_of first.now) env) a) (sym is);
  work =
      let e = ap (λ b. if b then work_of source.arrays (tree_of second.now) env else work_of source.arrays (tree_of first.now) env) is in
      omega (arith, e);
  trace = ap (with_steps 1) (append-nil (trace_of source.arrays (tree_of first.now) env)
      ∙ ap (λ b. if b then trace_of source.arrays (tree_of second.now) env else trace_of source.arrays (tree_of first.now) env) (sym is));
  faultless = λ held h. (tt, h.0.0.0);
}

pub hand_branch : (before mid new : Strand) (v : ℕ) (first second : Bor Expr) (c : Bool) → IsPopped (Branch first second) before mid → mid.control ≡ Give v → (v == 0) ≡ c →
    Becomes mid new mid.environment mid.frames (Begin (if c then second else first)) → AfterSteps 1 before None new
hand_branch before mid new v first second c popped gives is b =
    hands_on 1 before mid new v (Branch first second) (Begin (if c then second else first)) popped gives b
    (λ fs. refl) refl refl refl refl
    (chosen (source_of mid.program.now) mid.own.name mid.environment v first second c is)

pub hand_extend : (before mid new : Strand) (v : ℕ) (body : Bor Expr) → IsPopped (Extend body) before mid → mid.control ≡ Give v →
    Becomes mid new (with_newest mid.environment v) (mid.frames ++ Restore (length mid.environment) ∷ []) (Begin body) → AfterSteps 1 before None new
hand_extend before mid new v body popped gives b =
    let env = mid.environment in
    let source = source_of mid.program.now in
    let back : take (length env) (env ++ v ∷ []) ≡ env = take-append_seam env (v ∷ []) in
    let w = value_of source.arrays (tree_of body.now) (with_newest env v) in
    hands_to_part before mid new v (Extend body) (Restore (length env)) (with_newest env v) body popped gives b refl refl refl
    (record { ending = ap (λ e. record { env = e; value = w }) back; account = λ a any. refl; work = omega arith; trace = ap (with_steps 1) (append-nil (trace_of source.arrays (tree_of body.now) (with_newest env v))); faultless = λ held h. ((tt, tt), h.0.0) })

pub hand_restore : (before mid new : Strand) (v n : ℕ) → IsPopped (Restore n) before mid → mid.control ≡ Give v →
    Becomes mid new (take n mid.environment) mid.frames mid.control → AfterSteps 0 before None new
hand_restore before mid new v n popped gives b =
    let fs = mid.frames in
    let env = mid.environment in
    goes_on_by 0 mid before new (Give v) (Give v) fs (Restore n ∷ []) [] env (take n env)
    (framed_as mid before env (fs ++ Restore n ∷ []) (fs ++ Restore n ∷ []) mid.control (Give v) popped refl gives)
    (framed_as mid new (take n env) (fs ++ []) (fs ++ []) mid.control (Give v) (alone mid new (take n env) mid.control b) refl gives) refl refl refl refl refl refl
    (record { ending = refl; account = λ a any. refl; work = omega arith; trace = refl; faultless = λ held h. (tt, tt) })

-- one step is within one
pub once : (old new : Strand) → Goes 1 [] old new → GoesWithin 1 1 old new
once old new g = record { made = 1; at_least = omega arith; at_most = omega arith; goes = g }

-- Frames at which the thread pauses.
pub hand_amount : (before mid new : Strand) (v ledger : ℕ) (body : Bor Expr) → IsPopped (Amount ledger body) before mid → mid.control ≡ Give v →
    Becomes mid new mid.environment mid.frames (Tallies ledger v body) → AfterSteps 1 before (Some (pause.Tallies ledger v)) new
hand_amount before mid new v ledger body popped gives b =
    let s = hands_to_stop before mid new v (Amount ledger body) (Tallies ledger v body) popped gives b (λ fs. refl) refl refl (λ h. (tt, tt))
    (record { ending = refl; account = λ a any. refl; work = omega arith; trace = ap (with_steps 1) (append-nil _); faultless = λ held h. (tt, h.0.0) }) in
    (once before new s.goes, s.pending, s.locks ∙ sym s.old_locks)

pub hand_release : (before mid new : Strand) (v lock : ℕ) → IsPopped (Release lock) before mid → mid.control ≡ Give v →
    Becomes mid new mid.environment mid.frames (Frees lock v) → AfterSteps 1 before (Some (pause.Frees lock)) new
hand_release before mid new v lock popped gives b =
    let s = hands_to_stop before mid new v (Release lock) (Frees lock v) popped gives b (λ fs. refl) refl refl (λ h. (tt, tt))
    (record { ending = refl; account = λ a any. refl; work = omega arith; trace = refl; faultless = λ held h. (tt, h.0.0) }) in
    (once before new s.goes, s.pending, s.locks ∙ sym s.old_locks, (releases mid.frames, s.locks))

pub hand_join : (before mid new : Strand) (v number : ℕ) (next : Bor Expr) → IsPopped (Join number next) before mid → mid.control ≡ Give v →
    Becomes mid new mid.environment mid.frames (Awaits number v next) → AfterSteps 1 before (Some pause.Joins) new
hand_join before mid new v number next popped gives b =
    let s = hands_to_stop before mid new v (Join number next) (Awaits number v next) popped gives b (λ fs. refl) refl refl (λ h. (h.1.0, tt))
    (record { ending = refl; account = λ a any. refl; work = omega arith; trace = ap (with_steps 1) (append-nil _); faultless = λ held h. (tt, h.0.0) }) in
    (once before new s.goes, s.pending, s.locks ∙ sym s.old_locks)

pub hand_merge : (before mid new : Strand) (v number : ℕ) (reduction : Reduction) → IsPopped (Merge number reduction) before mid → mid.control ≡ Give v →
    Becomes mid new mid.environment mid.frames (AwaitsHalf number v reduction) → AfterSteps 1 before (Some pause.Joins) new
hand_merge before mid new v number reduction popped gives b =
    let s = hands_to_stop before mid new v (Merge number reduction) (AwaitsHalf number v reduction) popped gives b (λ fs. refl) refl refl (λ h. (h.1.0, tt))
    (record { ending = refl; account = λ a any. refl; work = omega arith; trace = refl; faultless = λ held h. (tt, h.0.0) }) in
    (once before new s.goes, s.pending, s.locks ∙ sym s.old_locks)

-- no frame is left
pub ends : (old mid new : Strand) (v : ℕ) → IsUnchanged old mid → old.control ≡ Give v → mid.frames ≡ [] →
    Becomes mid new mid.environment mid.frames (Ended v) → AfterSteps 1 old (Some pause.Ended) new
ends old mid new v same gives none b =
    let env = mid.environment in
    let back : Becomes mid old env [] (Give v) = record {
      program = sym same.program;
      own = sym same.own;
      below = sym same.below;
      forks = sym same.forks;
      environment_is = sym same.environment_is;
      frames_are = sym same.frames_are ∙ none;
      control_is = gives;
    } in
    let s = steps_by 1 mid old new (Give v) (Ended v) [] [] [] env env back
    (framed_as mid new env mid.frames [] (Ended v) (Ended v) b none refl) refl refl refl refl (λ h. (tt, tt))
    (record { ending = refl; account = λ a any. refl; work = omega arith; trace = refl; faultless = λ held h. (tt, tt) }) in (
      once old new s.goes,
      s.pending,
      ap (λ k. fork_awaited k ++ forks_of new.frames) b.control_is ∙ ap forks_of (b.frames_are ∙ none),
      s.locks ∙ sym s.old_locks,
      s.locks,
      work_at (source_of mid.program.now) mid.own.name (Ended v) mid.frames env new (at_of mid new (Ended v) mid.frames env b),
    )

-- Folds.
pub hand_fold_to : (before mid new : Strand) (v : ℕ) (to first body : Bor Expr) → IsPopped (FoldTo to first body) before mid → mid.control ≡ Give v →
    Enters mid new (FoldFirst v first body) (Begin to) → AfterSteps 1 before None new
hand_fold_to before mid new v to first body popped gives b =
    hands_to_part before mid new v (FoldTo to first body) (FoldFirst v first body) mid.environment to popped gives b refl refl refl
    (record { ending = refl; account = λ a any. refl; work = omega arith; trace = refl; faultless = λ held h. (((h.0.0.1, h.0.0.2), tt), h.0.0.0) })

pub hand_fold_first : (before mid new : Strand) (v from : ℕ) (first body : Bor Expr) → IsPopped (FoldFirst from first body) before mid → mid.control ≡ Give v →
    Enters mid new (FoldStart from v body) (Begin first) → AfterSteps 1 before None new
hand_fold_first before mid new v from first body popped gives b =
    hands_to_part before mid new v (FoldFirst from first body) (FoldStart from v body) mid.environment first popped gives b refl refl refl
    (record { ending = refl; account = λ a any. refl; work = omega arith; trace = refl; faultless = λ held h. ((h.0.0.1, tt), h.0.0.0) })

pub without-two : (env : List ℕ) (x y : ℕ) → without_newest 2 (with_newest (with_newest env x) y) ≡ env
without-two env x y =
    let all = with_newest (with_newest env x) y in
    let long : length all - 2 ≡ length env = omega (arith, length-append (env ++ x ∷ []) (y ∷ []), length-append env (x ∷ [])) in
    ap (λ n. take n all) long ∙ ap (take (length env)) (append_assoc env (x ∷ []) (y ∷ [])) ∙ take-append_seam env (x ∷ y ∷ [])

pub without-one : (env : List ℕ) (x : ℕ) → without_newest 1 (with_newest env x) ≡ env
without-one env x =
    let long : length (env ++ x ∷ []) - 1 ≡ length env = omega (arith, length-append env (x ∷ [])) in
    ap (λ n. take n (env ++ x ∷ [])) long ∙ take-append_seam env (x ∷ [])

-- A fold with a value so far begins an iteration, or ends.
fold_turn : (source : Source) (name env : List ℕ) (v next end : ℕ) (body : Bor Expr) → next < end →
    StepOutlook 1 source name (Give v) (FoldStart next end body ∷ []) env (Begin body) (FoldTurn (next + 1) end body ∷ []) (with_newest (with_newest env next) v)
fold_turn source name env v next end body lt =
    let A = source.arrays in
    let L = source.locks in
    let t = tree_of body.now in
    let inner = with_newest (with_newest env next) v in
    let w = value_of A t inner in
    let n = end - (next + 1) in
    let back = without-two env next v in
    let F : List ℕ → Status = λ e. record { env = e; value = folded A t e (next + 1) n w } in
    record {
      ending = ap F back ∙ ap (λ x. record { env = env; value = x }) (sym (folded-turn A t env next end v lt));
      account = λ a any. ap (λ e. after name (folded_effects A L t e (next + 1) n w) (after name (effects_of A L t inner) a)) back
          ∙ sym (folded_effects-turn A L t env next end v name a lt);
      work =
          let e = ap (λ e. folded_work A t e (next + 1) n w) back in
          omega (arith, e, folded_work-turn A t env next end v lt);
      trace = ap (with_steps 1) (ap (λ e. trace_of A t inner ++ (folded_trace A t e (next + 1) n w ++ event.Step ∷ [])) back
          ∙ sym (append_assoc (trace_of A t inner) (folded_trace A t env (next + 1) n w) (event.Step ∷ []))
          ∙ ap (λ l. l ++ event.Step ∷ []) (sym (folded_trace-turn A t env next end v lt)));
      faultless = λ held h. ((h.0.0, tt), h.0.0);
    }

fold_end : (source : Source) (name env : List ℕ) (v next end : ℕ) (body : Bor Expr) → end ≤ next →
    StepOutlook 1 source name (Give v) (FoldStart next end body ∷ []) env (Give v) [] env
fold_end source name env v next end body le = record {
  ending = ap (λ x. record { env = env; value = x }) (sym (folded-done source.arrays (tree_of body.now) env next end v le));
  account = λ a any. sym (folded_effects-done source.arrays source.locks (tree_of body.now) env next end v name a le);
  work = omega (arith, folded_work-done source.arrays (tree_of body.now) env next end v le);
  trace = ap (λ l. with_steps 1 (l ++ event.Step ∷ [])) (sym (folded_trace-done source.arrays (tree_of body.now) env next end v le));
  faultless = λ held h. (tt, tt);
}

pub hand_fold_start : (before mid new : Strand) (v from to : ℕ) (body : Bor Expr) → IsPopped (FoldStart from to body) before mid → mid.control ≡ Give v →
    TurnsFold mid new from to body v → AfterSteps 1 before None new
hand_fold_start before mid new v from to body popped gives turns =
    let source = source_of mid.program.now in
    let name = mid.own.name in
    let env = mid.environment in
    elim (cases_lt from to) [
      | inl lt ↦ hands_to_part before mid new v (FoldStart from to body) (FoldTurn (from + 1) to body) (with_newest (with_newest env from) v) body popped gives
          (turns.turn lt) refl refl refl (fold_turn source name env v from to body lt)
      | inr le ↦ hands_on 1 before mid new v (FoldStart from to body) (Give v) popped gives (turns.done le) (λ fs. refl) refl refl refl refl
          (fold_end source name env v from to body le)
    ]

fold_on : (source : Source) (name env : List ℕ) (v next end : ℕ) (body : Bor Expr) (k' : Control) (gs' : List Frame) (env' : List ℕ) →
    StepOutlook 1 source name (Give v) (FoldStart next end body ∷ []) (without_newest 2 env) k' gs' env' →
    StepOutlook 1 source name (Give v) (FoldTurn next end body ∷ []) env k' gs' env'
fold_on source name env v next end body k' gs' env' s = record { ending = s.ending; account = s.account; work = s.work; trace = s.trace; faultless = s.faultless }

pub fold_giving : (t new : Strand) (v next end : ℕ) (body : Bor Expr) (so_far : ℕ) → TurnsFold t new next end body so_far → TurnsFold (giving t v) new next end body so_far
fold_giving t new v next end body so_far turns = record {
  turn = λ lt. as_giving t new v _ _ _ (turns.turn lt);
  done = λ le. as_giving t new v _ _ _ (turns.done le);
}

-- A fold goes on after one of its iterations, whose two variables were dropped.
pub hand_fold_turn : (before mid outer new : Strand) (v next end : ℕ) (body : Bor Expr) (k : Control) → IsPopped (FoldTurn next end body) before mid → mid.control ≡ Give v →
    Becomes mid outer (without_newest 2 mid.environment) mid.frames k →
    TurnsFold outer new next end body v → AfterSteps 1 before None new
hand_fold_turn before mid outer new v next end body k popped gives dropped turns =
    let source = source_of mid.program.now in
    let name = mid.own.name in
    let env = mid.environment in
    let fs = mid.frames in
    let less = without_newest 2 env in
    let f = FoldTurn next end body in
    elim (cases_lt next end) [
      | inl lt ↦ goes_on_by 1 mid before new (Give v) (Begin body) fs (f ∷ []) (FoldTurn (next + 1) end body ∷ []) env (with_newest (with_newest less next) v)
          (given_off before mid v f popped gives)
          (reshaped mid new (with_newest (with_newest outer.environment next) v) (with_newest (with_newest less next) v)
          (outer.frames ++ FoldTurn (next + 1) end body ∷ []) (fs ++ FoldTurn (next + 1) end body ∷ []) (Begin body) (Begin body)
          (later mid outer new less (with_newest (with_newest outer.environment next) v) fs (outer.frames ++ FoldTurn (next + 1) end body ∷ []) k (Begin body)
          dropped (turns.turn lt))
          (ap (λ e. with_newest (with_newest e next) v) dropped.environment_is) (ap (λ l. l ++ FoldTurn (next + 1) end body ∷ []) dropped.frames_are) refl)
          refl refl refl refl refl refl (fold_on source name env v next end body (Begin body) (FoldTurn (next + 1) end body ∷ []) (with_newest (with_newest less next) v)
          (fold_turn source name less v next end body lt))
      | inr le ↦ goes_on_by 1 mid before new (Give v) (Give v) fs (f ∷ []) [] env less
          (given_off before mid v f popped gives)
          (alone mid new less (Give v)
          (reshaped mid new outer.environment less outer.frames fs (Give v) (Give v)
          (later mid outer new less outer.environment fs outer.frames k (Give v) dropped (turns.done le))
          dropped.environment_is dropped.frames_are refl))
          refl refl refl refl refl refl (fold_on source name env v next end body (Give v) [] less (fold_end source name less v next end body le))
    ]

-- Sweeps.
pub hand_sweep_to : (before mid new : Strand) (v : ℕ) (reduction : Reduction) (grain : ℕ) (to body : Bor Expr) → IsPopped (SweepTo reduction grain to body) before mid → mid.control ≡ Give v →
    Enters mid new (SweepStart reduction grain v body) (Begin to) → AfterSteps 1 before None new
hand_sweep_to before mid new v reduction grain to body popped gives b =
    hands_to_part before mid new v (SweepTo reduction grain to body) (SweepStart reduction grain v body) mid.environment to popped gives b refl refl refl
    (record { ending = refl; account = λ a any. refl; work = omega arith; trace = refl; faultless = λ held h. (((h.0.0.0, h.0.0.2), tt), h.0.0.1) })

pub hand_sweep_start : (before mid new : Strand) (v : ℕ) (reduction : Reduction) (grain first : ℕ) (body : Bor Expr) → IsPopped (SweepStart reduction grain first body) before mid → mid.control ≡ Give v →
    Becomes mid new mid.environment mid.frames (Cover (record { reduction = reduction; grain = grain; first = first; end = v; body = body })) → AfterSteps 1 before None new
hand_sweep_start before mid new v reduction grain first body popped gives b =
    hands_on 1 before mid new v (SweepStart reduction grain first body) (Cover (record { reduction = reduction; grain = grain; first = first; end = v; body = body })) popped gives b
    (λ fs. refl) refl refl refl refl
    (record { ending = refl; account = λ a any. refl; work = omega arith; trace = ap (with_steps 1) (append-nil _); faultless = λ held h. (tt, h.0.0) })

-- A sweep with a value so far has the same result as these frames with this next action.
record Sweeps (source : Source) (name : List ℕ) (env : List ℕ) (reduction : Reduction) (next end x : ℕ) (body : Tree) (k' : Control) (gs' : List Frame) (env' : List ℕ) : Type 0 where
  pub ending : resume source name gs' (begun source name k' env') ≡ record { env = env; value = swept source.arrays reduction body env next (end - next) x }
  pub account : (a : Account) →
      resume_account source name gs' (begun source name k' env') (begun_account source name k' env' a)
      ≡ after name (swept_effects source.arrays source.locks body env next (end - next)) a
  pub work : begun_work source name k' env' + resume_work source name gs' (begun source name k' env') ≡ swept_work source.arrays body env next (end - next) + 1
  pub trace : begun_trace source name k' env' ++ resume_trace source name gs' (begun source name k' env') ≡ swept_trace source.arrays body env next (end - next) ++ event.Step ∷ []
  pub faultless : (held : Bool) → IsFaultless source held body → GoesWithoutFault source held gs' k'

sweep_turn : (source : Source) (name env : List ℕ) (reduction : Reduction) (next end x : ℕ) (body : Bor Expr) → next < end →
    Sweeps source name env reduction next end x (tree_of body.now) (Begin body) (SweepTurn reduction (next + 1) end x body ∷ []) (with_newest env next)
sweep_turn source name env reduction next end x body lt =
    let A = source.arrays in
    let L = source.locks in
    let t = tree_of body.now in
    let inner = with_newest env next in
    let w = apply (operation_of reduction) x (value_of A t inner) in
    let n = end - (next + 1) in
    let back = without-one env next in
    let F : List ℕ → Status = λ e. record { env = e; value = swept A reduction t e (next + 1) n w } in
    record {
      ending = ap F back ∙ ap (λ y. record { env = env; value = y }) (sym (swept-turn A reduction t env next end x lt));
      account = λ a. ap (λ e. after name (swept_effects A L t e (next + 1) n) (after name (effects_of A L t inner) a)) back
          ∙ sym (swept_effects-turn A L t env next end name a lt);
      work =
          let e = ap (λ e. swept_work A t e (next + 1) n) back in
          omega (arith, e, swept_work-turn A t env next end lt);
      trace = ap (λ e. trace_of A t inner ++ (swept_trace A t e (next + 1) n ++ event.Step ∷ [])) back
          ∙ sym (append_assoc (trace_of A t inner) (swept_trace A t env (next + 1) n) (event.Step ∷ []))
          ∙ ap (λ l. l ++ event.Step ∷ []) (sym (swept_trace-turn A t env next end lt));
      faultless = λ held h. ((h, tt), h);
    }

sweep_end : (source : Source) (name env : List ℕ) (reduction : Reduction) (next end x : ℕ) (body : Tree) → end ≤ next →
    Sweeps source name env reduction next end x body (Give x) [] env
sweep_end source name env reduction next end x body le = record {
  ending = ap (λ y. record { env = env; value = y }) (sym (swept-done source.arrays reduction body env next end x le));
  account = λ a. sym (swept_effects-done source.arrays source.locks body env next end name a le);
  work = omega (arith, swept_work-done source.arrays body env next end le);
  trace = ap (λ l. l ++ event.Step ∷ []) (sym (swept_trace-done source.arrays body env next end le));
  faultless = λ held h. (tt, tt);
}

sweep_on : (source : Source) (name env less : List ℕ) (v so_far : ℕ) (reduction : Reduction) (next end : ℕ) (body : Bor Expr) (k' : Control) (gs' : List Frame) (env' : List ℕ) → less ≡ without_newest 1 env →
    Sweeps source name less reduction next end (apply (operation_of reduction) so_far v) (tree_of body.now) k' gs' env' →
    StepOutlook 1 source name (Give v) (SweepTurn reduction next end so_far body ∷ []) env k' gs' env'
sweep_on source name env less v so_far reduction next end body k' gs' env' is s =
    let s' = subst (λ e. Sweeps source name e reduction next end (apply (operation_of reduction) so_far v) (tree_of body.now) k' gs' env') is s in
    record { ending = s'.ending; account = λ a any. s'.account a; work = omega (arith, s'.work); trace = ap (with_steps 1) s'.trace; faultless = λ held h. s'.faultless held h.0.0 }

-- A sweep goes on after one of its iterations, whose variable was dropped.
pub hand_sweep_turn : (before mid outer new : Strand) (v : ℕ) (reduction : Reduction) (next end so_far w : ℕ) (body : Bor Expr) (k : Control) → IsPopped (SweepTurn reduction next end so_far body) before mid → mid.control ≡ Give v →
    Becomes mid outer (without_newest 1 mid.environment) mid.frames k → w ≡ apply (operation_of reduction) so_far v →
    TurnsSweep outer new reduction next end body w → AfterSteps 1 before None new
hand_sweep_turn before mid outer new v reduction next end so_far w body k popped gives dropped is turns =
    let source = source_of mid.program.now in
    let name = mid.own.name in
    let env = mid.environment in
    let fs = mid.frames in
    let less = without_newest 1 env in
    let x = apply (operation_of reduction) so_far v in
    let f = SweepTurn reduction next end so_far body in
    elim (cases_lt next end) [
      | inl lt ↦ goes_on_by 1 mid before new (Give v) (Begin body) fs (f ∷ []) (SweepTurn reduction (next + 1) end x body ∷ []) env (with_newest less next)
          (given_off before mid v f popped gives)
          (reshaped mid new (with_newest outer.environment next) (with_newest less next)
          (outer.frames ++ SweepTurn reduction (next + 1) end w body ∷ []) (fs ++ SweepTurn reduction (next + 1) end x body ∷ []) (Begin body) (Begin body)
          (later mid outer new less (with_newest outer.environment next) fs (outer.frames ++ SweepTurn reduction (next + 1) end w body ∷ []) k (Begin body)
          dropped (turns.turn lt))
          (ap (λ e. with_newest e next) dropped.environment_is)
          (ap (λ l. l ++ SweepTurn reduction (next + 1) end w body ∷ []) dropped.frames_are ∙ ap (λ y. fs ++ SweepTurn reduction (next + 1) end y body ∷ []) is) refl)
          refl refl refl refl refl refl
          (sweep_on source name env less v so_far reduction next end body (Begin body) (SweepTurn reduction (next + 1) end x body ∷ []) (with_newest less next) refl
          (sweep_turn source name less reduction next end x body lt))
      | inr le ↦ goes_on_by 1 mid before new (Give v) (Give x) fs (f ∷ []) [] env less
          (given_off before mid v f popped gives)
          (alone mid new less (Give x)
          (reshaped mid new outer.environment less outer.frames fs (Give w) (Give x)
          (later mid outer new less outer.environment fs outer.frames k (Give w) dropped (turns.done le))
          dropped.environment_is dropped.frames_are (ap Give is)))
          refl refl refl refl refl refl
          (sweep_on source name env less v so_far reduction next end body (Give x) [] less refl (sweep_end source name less reduction next end x (tree_of body.now) le))
    ]

-- A part of a sweep that is not split.
covered : (source : Source) (name env : List ℕ) (stretch : Stretch) (k' : Control) (gs' : List Frame) (env' : List ℕ) → stretch.end - stretch.first ≤ max 1 stretch.grain →
    Sweeps source name env stretch.reduction stretch.first stretch.end (unit_of stretch.reduction) (tree_of stretch.body.now) k' gs' env' →
    StepOutlook 1 source name (Cover stretch) [] env k' gs' env'
covered source name env stretch k' gs' env' le s = record {
  ending = s.ending;
  account = λ a any. s.account a
      ∙ ap (λ e. after name e a) (sym (effects_whole source.arrays source.locks stretch.reduction stretch.grain (tree_of stretch.body.now) env stretch.first (stretch.end - stretch.first) le));
  work = omega (arith, s.work, work_whole source.arrays stretch.reduction stretch.grain (tree_of stretch.body.now) env stretch.first (stretch.end - stretch.first) le);
  trace = ap (with_steps 1) s.trace
      ∙ sym (trace_whole source.arrays stretch.reduction stretch.grain (tree_of stretch.body.now) env stretch.first (stretch.end - stretch.first) le)
      ∙ sym (append-nil _);
  faultless = λ held h. s.faultless held h.1.1;
}

pub covers : (old mid new : Strand) (stretch : Stretch) (u : ℕ) → IsUnchanged old mid → old.control ≡ Cover stretch → stretch.end - stretch.first ≤ max 1 stretch.grain →
    u ≡ unit_of stretch.reduction → TurnsSweep mid new stretch.reduction stretch.first stretch.end stretch.body u → AfterSteps 1 old None new
covers old mid new stretch u same covering le is turns =
    let source = source_of mid.program.now in
    let name = mid.own.name in
    let env = mid.environment in
    let fs = mid.frames in
    let x = unit_of stretch.reduction in
    let back : Becomes mid old env fs (Cover stretch) = record {
      program = sym same.program;
      own = sym same.own;
      below = sym same.below;
      forks = sym same.forks;
      environment_is = sym same.environment_is;
      frames_are = sym same.frames_are;
      control_is = covering;
    } in
    let turn = SweepTurn stretch.reduction (stretch.first + 1) stretch.end x stretch.body in
    elim (cases_lt stretch.first stretch.end) [
      | inl lt ↦ goes_on_by 1 mid old new (Cover stretch) (Begin stretch.body) fs [] (turn ∷ []) env (with_newest env stretch.first)
          (alone mid old env (Cover stretch) back)
          (reshaped mid new (with_newest env stretch.first) (with_newest env stretch.first)
          (fs ++ SweepTurn stretch.reduction (stretch.first + 1) stretch.end u stretch.body ∷ []) (fs ++ turn ∷ []) (Begin stretch.body) (Begin stretch.body)
          (turns.turn lt) refl (ap (λ y. fs ++ SweepTurn stretch.reduction (stretch.first + 1) stretch.end y stretch.body ∷ []) is) refl)
          refl refl refl refl refl refl
          (covered source name env stretch (Begin stretch.body) (turn ∷ []) (with_newest env stretch.first) le
          (sweep_turn source name env stretch.reduction stretch.first stretch.end x stretch.body lt))
      | inr over ↦ goes_on_by 1 mid old new (Cover stretch) (Give x) fs [] [] env env
          (alone mid old env (Cover stretch) back)
          (alone mid new env (Give x) (reshaped mid new env env fs fs (Give u) (Give x) (turns.done over) refl refl (ap Give is)))
          refl refl refl refl refl refl
          (covered source name env stretch (Give x) [] env le
          (sweep_end source name env stretch.reduction stretch.first stretch.end x (tree_of stretch.body.now) over))
    ]
