-- A fork doesn't change the result of the thread, if the child is the one of the fork's number.
use Rattle.std.proofs.Common.{◌≡◌, ◌<◌, ℕ, ◌+◌, ◌-◌, ◌/◌, List, [], ◌∷◌, ◌++◌, length, Bool, false, Some, refl, ap, sym, ◌∙◌, subst, arith, append_assoc, unwrap_or, max, append-nil}
use Rattle.std.specs.Borrow.{Bor}
use Rattle.arachne_program.specs.declared.program.{Class.{Class, TheVariants.Normal}, Expr.Expr}
use Rattle.arachne_program.specs.{Tree.{Fork, Number, Source}, Program.{source_of, tree_of}, Meaning.task_of}
use Rattle.arachne_program.specs.{Value.{value_of, with_newest, apply, operation_of}, Checked.node_faults}
use Rattle.arachne_program.specs.Effects.{Task, Evaluate, Reduce, Child, forked, half, effects_of, task_effects, task_value}
use Rattle.arachne_machine.proofs.{Accounts.{after-sequence, after-forked, after-children}, Frames.Grows-frames}
use Rattle.arachne_machine.proofs.Faultlessness.{no_faults-append, within_none}
use Rattle.arachne_machine.proofs.Halves.{value_split, effects_split, work_split, trace_split}
use Rattle.arachne_machine.proofs.Outlooks.{KeepsTop, SameOutlook, IsAt, LeavesFrames, at_itself, account_at, faultless_at, unjoined_at, here_at, locks_at, same_end}
use Rattle.arachne_machine.specs.{Account.{Account, after, with_fork, with_join}, Strands.Strand}
use Rattle.arachne_machine.specs.Ending.{child_task, stretch_task, resume_account, begun, begun_account, fork_awaited, lock_freed, forks_of, forks_here, releases, work_left}
use Rattle.arachne_machine.specs.{Faultless.{IsFaultless, IsFaultlessNext, held_by}, Work.{work_of, task_work}}
use Rattle.arachne_machine.specs.Steps.{PushesFork, SpawnsChild, GoesToFork, GivesChild, PlacesChild, task_begun, pending_of}
use Rattle.arachne_machine.specs.{Trace.{Event, Step, At, trace_of, task_trace}, declared.frame.Control.Control}
use Rattle.arachne_machine.specs.declared.frame.{Control.TheVariants.{Begin, Cover, Forked, Halved}, Frame.Frame}
use Rattle.arachne_machine.specs.declared.frame.{Frame.TheVariants.{Join, Merge, JoinHere, MergeHere}, Stretch.Stretch}
use Rattle.arachne_machine.specs.declared.pause.Pending.TheVariants as pause
use Rattle.arachne_program.specs.declared.check_fault.CheckFault.TheVariants as fault

-- the task of a child that exists
pub child_task-found : (source : Source) (name : List ℕ) (n : ℕ) (task : Task) → task_of source (name ++ n ∷ []) ≡ Some task → child_task source name n ≡ task
unfolding child_task
child_task-found source name n task h = ap (λ o. unwrap_or o (Evaluate (Number 0) [])) h

-- the accounts with this number of forks
abbrev pub HasForked : ℕ → Account → Type 0
HasForked n a = length a.children ≡ n

-- The child's steps are another state's, and the fork is a pause; or they are this state's, and the fork is no pause.
abbrev pub ForkOutlook : Source → List ℕ → ℕ → ℕ → List Event → Child → Control → List ℕ → Control → Frame → Type 0
ForkOutlook source name n handed answered made k env k' f = SameOutlook 1 handed answered (HasForked n) (with_fork made) source name k [] env k' (f ∷ []) env

-- This is the next of the children that are still to be forked.
abbrev pub ForksNext : Source → List ℕ → Child → Control → List ℕ → Type 0
ForksNext source name made k env = (a : Account) → (rest : List Child) × ((begun_account source name k env a).children ≡ a.children ++ made ∷ rest)

-- the child of this class that begins with this action
abbrev pub made_as : Class → Control → List ℕ → Child
made_as class begins env = record { class = class; task = task_begun begins env }

-- if the program has such a child, the thread has the same result with this control and this frame
abbrev pub KeepsItsFork : Strand → Control → Control → Frame → Type 0
KeepsItsFork old begins k' f = task_of (source_of old.program.now) (old.own.name ++ old.forks ∷ []) ≡ Some (task_begun begins old.environment) →
    KeepsTop (source_of old.program.now) old.own.name k' (f ∷ []) old.environment

abbrev pub HasNext : Class → Strand → Control → Control → Type 0
HasNext class old begins k = ForksNext (source_of old.program.now) old.own.name (made_as class begins old.environment) k old.environment

-- the child's task in the program is the one that it begins with
abbrev pub FindsTask : Strand → Control → Type 0
FindsTask old begins = child_task (source_of old.program.now) old.own.name old.forks ≡ task_begun begins old.environment

pub forks_by : (class : Class) (handed : ℕ) (answered : List Event) (old new : Strand) (begins k k' : Control) (f : Frame) → old.control ≡ k → PushesFork old new f k' →
    LeavesFrames k → LeavesFrames k' →
    fork_awaited k' ++ forks_of (f ∷ []) ≡ old.forks ∷ (fork_awaited k ++ []) → lock_freed k' ++ releases (f ∷ []) ≡ lock_freed k ++ [] →
    KeepsItsFork old begins k' f → HasNext class old begins k →
    (FindsTask old begins →
    ForkOutlook (source_of old.program.now) old.own.name old.forks handed answered (made_as class begins old.environment) k old.environment k' f) →
    GoesToFork 1 handed answered (forks_here (f ∷ [])) old new (made_as class begins old.environment)
forks_by class handed answered old new begins k k' f is_k pushed left left' forks locks keep next outlook =
    let source = source_of old.program.now in
    let name = old.own.name in
    let fs = old.frames in
    let env = old.environment in
    let n = old.forks in
    let task = task_begun begins env in
    let made = made_as class begins env in
    let at : IsAt source name k (fs ++ []) env old = at_itself old k is_k in
    let at' : IsAt source name k' (fs ++ f ∷ []) env new = assumption (ap (λ p. source_of p.now) pushed.program, ap (λ o. o.name) pushed.own) in
    record {
      program = pushed.program;
      own = pushed.own;
      below = pushed.below;
      forks = pushed.forks;
      unjoined = unjoined_at source name k' fs (f ∷ []) env new at' ∙ ap (λ l. l ++ forks_of fs) forks ∙ ap (λ l. n ∷ l) (sym (unjoined_at source name k fs [] env old at));
      here_is = here_at source name k' fs (f ∷ []) env new at';
      locks = locks_at source name k' fs (f ∷ []) env new at' ∙ ap (λ l. l ++ releases fs) locks ∙ sym (locks_at source name k fs [] env old at);
      next_child = λ a.
          let s = begun source name k env in
          let b = begun_account source name k env a in
          let one = next a in
          let grown = Grows-frames source name (fs ++ []) s b in (
            one.0 ++ grown.more,
            ap (λ x. x.children) (account_at source name k (fs ++ []) env old a at ∙ ap (λ l. resume_account source name l s b) (left (fs ++ [])))
                ∙ grown.is ∙ ap (λ l. l ++ grown.more) one.1 ∙ append_assoc a.children (made ∷ one.0) grown.more,
          );
      keeps = λ has.
          let end = same_end 1 handed answered (HasForked n) (with_fork made) source name k k' fs [] (f ∷ []) env env old new at at' (left (fs ++ [])) (left' (fs ++ f ∷ []))
          (λ h. keep has) (outlook (child_task-found source name n task has)) in
          record {
            ending = end.ending;
            account = end.account;
            taken = 1;
            at_least = omega arith;
            at_most = omega arith;
            work = omega (arith, end.work);
            trace = end.trace;
            faultless = end.faultless;
            keeps = end.keeps;
          };
    }

-- A child that was made in a state of its own.
pub gives_by : (class : Class) (old new child : Strand) (begins k k' : Control) (f : Frame) → old.control ≡ k → SpawnsChild old new child begins f k' →
    LeavesFrames k → LeavesFrames k' →
    fork_awaited k' ++ forks_of (f ∷ []) ≡ old.forks ∷ (fork_awaited k ++ []) → forks_here (f ∷ []) ≡ [] → lock_freed k' ++ releases (f ∷ []) ≡ lock_freed k ++ [] →
    pending_of k' ≡ Some pause.Forks →
    ((held : Bool) → IsFaultlessNext (source_of old.program.now) held k → IsFaultlessNext (source_of old.program.now) false begins) →
    KeepsItsFork old begins k' f → HasNext class old begins k →
    (FindsTask old begins →
    ForkOutlook (source_of old.program.now) old.own.name old.forks (task_work (source_of old.program.now).arrays (task_begun begins old.environment)) []
    (made_as class begins old.environment) k old.environment k' f) →
    GivesChild 1 old new child (made_as class child.control child.environment)
gives_by class old new child begins k k' f is_k spawned left left' forks here locks pending childs keep next outlook =
    let source = source_of old.program.now in
    let name = old.own.name in
    let fs = old.frames in
    let env = old.environment in
    let task = task_begun begins env in
    let at : IsAt source name k (fs ++ []) env old = at_itself old k is_k in
    let forked = forks_by class (task_work source.arrays task) [] old new begins k k' f is_k spawned.pushed left left' forks locks keep next outlook in
    let counted = subst (λ w. GoesToFork 1 w [] (forks_here (f ∷ [])) old new (made_as class begins env)) (sym spawned.fresh.work) forked in
    let elsewhere = subst (λ l. GoesToFork 1 (work_left child) [] l old new (made_as class begins env)) here counted in
    subst (λ t. GivesChild 1 old new child (record { class = class; task = t })) (sym spawned.begun)
    (record {
      forked = elsewhere;
      pending = ap pending_of spawned.pushed.control_is ∙ pending;
      fresh = spawned.fresh;
      faultless = λ h. spawned.faultless (childs (held_by false (fs ++ [])) (faultless_at source name k (fs ++ []) env old at h).1);
    })

-- the parts of a fork that has no fault
fork_parts : (source : Source) (held : Bool) (child during next : Bor Expr) (class : Class) →
    IsFaultless source held (Fork class (tree_of child.now) (tree_of during.now) (tree_of next.now)) →
    (held ≡ false) × IsFaultless source held (tree_of child.now) × IsFaultless source held (tree_of during.now) × IsFaultless source held (tree_of next.now)
fork_parts source held child during next class h =
    let within = node_faults source held h.0 in
    let last = node_faults source held (h.0 + 2) (tree_of next.now) in
    let parts = no_faults-append (within (tree_of child.now) ++ within (tree_of during.now)) last h.1.1 in
    let both = no_faults-append (within (tree_of child.now)) (within (tree_of during.now)) parts.0 in
    (within_none held fault.WithinHold h.1.0, (h.0, both.0), (h.0, both.1), (h.0 + 2, parts.1))

-- the expression is a fork of these
abbrev pub IsFork : Bor Expr → Class → Bor Expr → Bor Expr → Bor Expr → Type 0
IsFork expr class child during next = tree_of expr.now ≡ Fork class (tree_of child.now) (tree_of during.now) (tree_of next.now)

-- The fork of an expression.
fork_outlook : (source : Source) (name env : List ℕ) (n : ℕ) (expr child during next : Bor Expr) (class : Class) → IsFork expr class child during next →
    child_task source name n ≡ Evaluate (tree_of child.now) env →
    ForkOutlook source name n (work_of source.arrays (tree_of child.now) env) [] (record { class = class; task = Evaluate (tree_of child.now) env }) (Begin expr) env (Forked during) (Join n next)
fork_outlook source name env n expr child during next class h found =
    let A = source.arrays in
    let L = source.locks in
    let task = Evaluate (tree_of child.now) env in
    let made : Child = record { class = class; task = task } in
    let v = value_of A (tree_of during.now) env in
    let joined : Task → List ℕ = λ t. with_newest (with_newest env (task_value A t)) v in
    let childs = effects_of A L (tree_of child.now) env in
    let meanwhile = effects_of A L (tree_of during.now) env in
    let last = effects_of A L (tree_of next.now) (joined task) in
    record {
      ending = ap (λ t. record { env = env; value = value_of A (tree_of next.now) (joined t) }) found
          ∙ ap (λ t. record { env = env; value = value_of A t env }) (sym h);
      account = λ a e.
          ap (λ t. after name (effects_of A L (tree_of next.now) (joined t)) (with_join L name n (task_effects A L t) (after name meanwhile (with_fork made a)))) found
          ∙ ap (λ m. after name last (with_join L name m childs (after name meanwhile (with_fork made a)))) (sym e)
          ∙ ap (after name last) (sym (after-forked L name made childs meanwhile a))
          ∙ sym (after-sequence name (forked L made childs meanwhile) last a)
          ∙ ap (λ t. after name (effects_of A L t env) a) (sym h);
      work =
          let e = ap (λ t. work_of A (tree_of next.now) (joined t)) found in
          let w = ap (λ t. work_of A t env) h in
          omega (arith, e, w);
      trace = ap (λ t. Step ∷ At pause.Forks ∷ (trace_of A (tree_of during.now) env ++ At pause.Joins ∷ trace_of A (tree_of next.now) (joined t))) found
          ∙ ap (λ t. trace_of A t env) (sym h) ∙ sym (append-nil (trace_of A (tree_of expr.now) env));
      faultless = λ held free.
          let parts = fork_parts source held child during next class (subst (IsFaultless source held) h free.1) in
          (((parts.0, parts.3), tt), (parts.0, parts.2));
    }

-- A fork that is no pause keeps its child here.
fork_here_outlook : (source : Source) (name env : List ℕ) (n : ℕ) (expr child during next : Bor Expr) (class : Class) →
    IsFork expr class child during next → child_task source name n ≡ Evaluate (tree_of child.now) env →
    ForkOutlook source name n 0 (At pause.Forks ∷ []) (record { class = class; task = Evaluate (tree_of child.now) env }) (Begin expr) env (Begin during) (JoinHere n child next)
fork_here_outlook source name env n expr child during next class h found =
    let given = fork_outlook source name env n expr child during next class h found in
    record {
      ending = given.ending;
      account = given.account;
      work = omega (arith, given.work);
      trace = given.trace;
      faultless = λ held free.
          let parts = fork_parts source held child during next class (subst (IsFaultless source held) h free.1) in
          (((parts.0, parts.1, parts.3), tt), parts.2);
    }

fork_next : (source : Source) (name env : List ℕ) (expr first during next : Bor Expr) (class : Class) →
    IsFork expr class first during next →
    ForksNext source name (record { class = class; task = Evaluate (tree_of first.now) env }) (Begin expr) env
fork_next source name env expr first during next class h a =
    let A = source.arrays in
    let meanwhile = effects_of A source.locks (tree_of during.now) env in
    let last = effects_of A source.locks (tree_of next.now) (with_newest (with_newest env (value_of A (tree_of first.now) env)) (value_of A (tree_of during.now) env)) in (
      meanwhile.children ++ last.children,
      ap (λ t. (after name (effects_of A source.locks t env) a).children) h
          ∙ after-children name (effects_of A source.locks (Fork class (tree_of first.now) (tree_of during.now) (tree_of next.now)) env) a,
    )

pub goes_to_fork : (old new child : Strand) (expr first during next : Bor Expr) (class : Class) → old.control ≡ Begin expr →
    IsFork expr class first during next →
    SpawnsChild old new child (Begin first) (Join old.forks next) (Forked during) →
    GivesChild 1 old new child (made_as class child.control child.environment)
goes_to_fork old new child expr first during next class begins h spawned =
    let source = source_of old.program.now in
    let name = old.own.name in
    let env = old.environment in
    gives_by class old new child (Begin first) (Begin expr) (Forked during) (Join old.forks next) begins spawned
    (λ fs. refl) (λ fs. refl) refl refl refl refl
    (λ held free.
    let parts = fork_parts source held first during next class (subst (IsFaultless source held) h free) in
    subst (λ b. IsFaultless source b (tree_of first.now)) parts.0 parts.1)
    (λ has. (tt, (record { task = Evaluate (tree_of first.now) env; has_task = has; environment = refl }, tt)))
    (fork_next source name env expr first during next class h)
    (fork_outlook source name env old.forks expr first during next class h)

-- A fork whose child will run here.
pub places_fork : (old new : Strand) (expr first during next : Bor Expr) (class : Class) → old.control ≡ Begin expr →
    IsFork expr class first during next →
    PushesFork old new (JoinHere old.forks first next) (Begin during) →
    PlacesChild 1 old new (made_as class (Begin first) old.environment)
places_fork old new expr first during next class begins h pushed =
    let source = source_of old.program.now in
    let name = old.own.name in
    let env = old.environment in
    record {
      forked = forks_by class 0 (At pause.Forks ∷ []) old new (Begin first) (Begin expr) (Begin during) (JoinHere old.forks first next) begins pushed
          (λ fs. refl) (λ fs. refl) refl refl
          (λ has. (tt, (has, tt)))
          (fork_next source name env expr first during next class h)
          (fork_here_outlook source name env old.forks expr first during next class h);
      pending = ap pending_of pushed.control_is;
    }

-- the middle at which a part of a sweep is split
abbrev pub halfway : Stretch → ℕ
halfway stretch = stretch.first + (stretch.end - stretch.first) / 2

-- The split of a part of a sweep.
half_outlook : (source : Source) (name env : List ℕ) (n : ℕ) (stretch : Stretch) (middle : ℕ) → max 1 stretch.grain < stretch.end - stretch.first →
    middle ≡ halfway stretch →
    child_task source name n ≡ stretch_task (record stretch { end = middle }) env →
    ForkOutlook source name n (task_work source.arrays (stretch_task (record stretch { end = middle }) env)) []
    (record { class = Normal; task = stretch_task (record stretch { end = middle }) env }) (Cover stretch) env (Halved (record stretch { first = middle })) (Merge n stretch.reduction)
half_outlook source name env n stretch middle lt is found =
    let A = source.arrays in
    let L = source.locks in
    let r = stretch.reduction in
    let t = tree_of stretch.body.now in
    let count = stretch.end - stretch.first in
    let m = count / 2 in
    let R : ℕ → ℕ → Task = Reduce r stretch.grain t env in
    let H : ℕ → ℕ → Child = half r stretch.grain t env in
    let left : middle - stretch.first ≡ m = omega (arith, is) in
    let right : stretch.end - middle ≡ count - m = omega (arith, is) in
    let made = H stretch.first (middle - stretch.first) in
    let here : R stretch.first (middle - stretch.first) ≡ R stretch.first m = ap (R stretch.first) left in
    let there : R middle (stretch.end - middle) ≡ R (stretch.first + m) (count - m) = ap (λ x. R x (stretch.end - middle)) is ∙ ap (R (stretch.first + m)) right in
    record {
      ending =
          ap (λ x. record { env = env; value = apply (operation_of r) (task_value A x) (task_value A (R middle (stretch.end - middle))) }) (found ∙ here)
          ∙ ap (λ x. record { env = env; value = apply (operation_of r) (task_value A (R stretch.first m)) (task_value A x) }) there
          ∙ ap (λ x. record { env = env; value = x }) (sym (value_split A r stretch.grain t env stretch.first m count (omega arith)));
      account = λ a e.
          ap (λ x. with_join L name n (task_effects A L x) (after name (task_effects A L (R middle (stretch.end - middle))) (with_fork made a))) (found ∙ here)
          ∙ ap (λ x. with_join L name n (task_effects A L (R stretch.first m)) (after name (task_effects A L x) (with_fork made a))) there
          ∙ ap (λ x. with_join L name n (task_effects A L (R stretch.first m)) (after name (task_effects A L (R (stretch.first + m) (count - m))) (with_fork x a))) (ap (H stretch.first) left)
          ∙ ap (λ x. with_join L name x (task_effects A L (R stretch.first m)) (after name (task_effects A L (R (stretch.first + m) (count - m))) (with_fork (H stretch.first m) a))) (sym e)
          ∙ sym (after-forked L name (H stretch.first m) (task_effects A L (R stretch.first m)) (task_effects A L (R (stretch.first + m) (count - m))) a)
          ∙ ap (λ x. after name x a) (sym (effects_split A L r stretch.grain t env stretch.first count lt));
      work =
          let one = ap (task_work A) here in
          let two = ap (task_work A) there in
          omega (arith, one, two, work_split A r stretch.grain t env stretch.first count lt);
      trace =
          let whole = task_trace A (R stretch.first count) in
          ap (λ x. Step ∷ At pause.Forks ∷ (task_trace A x ++ At pause.Joins ∷ Step ∷ [])) there
          ∙ sym (trace_split A r stretch.grain t env stretch.first count lt) ∙ sym (append-nil whole);
      faultless = λ held h. ((h.1.0, tt), h.1);
    }

-- The left half stays here.
half_here_outlook : (source : Source) (name env : List ℕ) (n : ℕ) (stretch : Stretch) (middle : ℕ) → max 1 stretch.grain < stretch.end - stretch.first →
    middle ≡ halfway stretch →
    child_task source name n ≡ stretch_task (record stretch { end = middle }) env →
    ForkOutlook source name n 0 (At pause.Forks ∷ []) (record { class = Normal; task = stretch_task (record stretch { end = middle }) env }) (Cover stretch) env
    (Cover (record stretch { first = middle })) (MergeHere n (record stretch { end = middle }))
half_here_outlook source name env n stretch middle lt is found =
    let given = half_outlook source name env n stretch middle lt is found in
    record {
      ending = given.ending;
      account = given.account;
      work = omega (arith, given.work);
      trace = given.trace;
      faultless = λ held h. (((h.1.0, h.1.1), tt), h.1);
    }

half_next : (source : Source) (name env : List ℕ) (stretch : Stretch) (middle : ℕ) → max 1 stretch.grain < stretch.end - stretch.first →
    middle ≡ halfway stretch →
    ForksNext source name (record { class = Normal; task = stretch_task (record stretch { end = middle }) env }) (Cover stretch) env
half_next source name env stretch middle lt is a =
    let A = source.arrays in
    let L = source.locks in
    let r = stretch.reduction in
    let t = tree_of stretch.body.now in
    let count = stretch.end - stretch.first in
    let m = count / 2 in
    let R : ℕ → ℕ → Task = Reduce r stretch.grain t env in
    let left : middle - stretch.first ≡ m = omega (arith, is) in
    let rest = (task_effects A L (R (stretch.first + m) (count - m))).children in (
      rest,
      after-children name (task_effects A L (R stretch.first count)) a
          ∙ ap (λ e. a.children ++ e.children) (effects_split A L r stretch.grain t env stretch.first count lt)
          ∙ ap (λ k. a.children ++ half r stretch.grain t env stretch.first k ∷ rest) (sym left),
    )

pub goes_to_half : (old new child : Strand) (stretch : Stretch) (middle : ℕ) → old.control ≡ Cover stretch → max 1 stretch.grain < stretch.end - stretch.first →
    middle ≡ halfway stretch →
    SpawnsChild old new child (Cover (record stretch { end = middle })) (Merge old.forks stretch.reduction) (Halved (record stretch { first = middle })) →
    GivesChild 1 old new child (made_as Normal child.control child.environment)
goes_to_half old new child stretch middle covers lt is spawned =
    let source = source_of old.program.now in
    let name = old.own.name in
    let env = old.environment in
    let t = tree_of stretch.body.now in
    gives_by Normal old new child (Cover (record stretch { end = middle })) (Cover stretch) (Halved (record stretch { first = middle })) (Merge old.forks stretch.reduction) covers spawned
    (λ fs. refl) (λ fs. refl) refl refl refl refl
    (λ held free. (refl, subst (λ b. IsFaultless source b t) free.0 free.1))
    (λ has. (tt, (record { task = stretch_task (record stretch { end = middle }) env; has_task = has; environment = refl }, tt)))
    (half_next source name env stretch middle lt is)
    (half_outlook source name env old.forks stretch middle lt is)

-- A split whose left half will run here.
pub places_half : (old new : Strand) (stretch : Stretch) (middle : ℕ) → old.control ≡ Cover stretch → max 1 stretch.grain < stretch.end - stretch.first →
    middle ≡ halfway stretch →
    PushesFork old new (MergeHere old.forks (record stretch { end = middle })) (Cover (record stretch { first = middle })) →
    PlacesChild 1 old new (made_as Normal (Cover (record stretch { end = middle })) old.environment)
places_half old new stretch middle covers lt is pushed =
    let source = source_of old.program.now in
    let name = old.own.name in
    let env = old.environment in
    record {
      forked = forks_by Normal 0 (At pause.Forks ∷ []) old new (Cover (record stretch { end = middle })) (Cover stretch) (Cover (record stretch { first = middle }))
          (MergeHere old.forks (record stretch { end = middle })) covers pushed
          (λ fs. refl) (λ fs. refl) refl refl
          (λ has. (tt, (has, tt)))
          (half_next source name env stretch middle lt is)
          (half_here_outlook source name env old.forks stretch middle lt is);
      pending = ap pending_of pushed.control_is;
    }
