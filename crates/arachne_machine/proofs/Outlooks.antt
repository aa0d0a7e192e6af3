-- The result of the newest frames and the next action, and so of the whole thread.
use Rattle.std.proofs.Common.{◌≡◌, ℕ, ◌+◌, Bool, false, List, [], ◌∷◌, ◌++◌, None, refl, subst, ap, sym, ◌∙◌, arith, append_assoc, append-nil}
use Rattle.std.specs.Borrow.{Bor}
use Rattle.arachne_program.specs.{declared.program.Expr.Expr, Tree.Source, Program.source_of}
use Rattle.arachne_machine.specs.declared.frame.Frame.{Frame, TheVariants.{Join, Merge, JoinHere, MergeHere}}
use Rattle.arachne_machine.specs.declared.frame.Control.{Control, TheVariants.{Begin, Give, Awaits, AwaitsHalf}}
use Rattle.arachne_machine.specs.{Trace.{Event, At, with_steps}, Strands.Strand, Account.Account}
use Rattle.arachne_machine.specs.Ending.{Status, resume, resume_account, resume_work, resume_trace, begun, begun_account, begun_work, begun_trace, fork_awaited, lock_freed, forks_of, releases, frames_left, ending, account_at_end, work_left, trace_left, unjoined_of, here_of, locks_of, fork_of, fork_here, forks_here, AwaitsFork, KeepsFork, KeepForks, KeepsForks}
use Rattle.arachne_machine.{specs.Faultless.{GoesWithoutFault, IsWithoutFault}, proofs.Faultlessness.faultless_above}
use Rattle.arachne_machine.specs.Steps.{Becomes, Goes, AfterSteps, IsPopped, pending_of, beginning, giving}
use Rattle.arachne_machine.proofs.Frames.{resume-append, resume_account-append, resume_work-append, resume_trace-append, with_steps-append, forks_of-append, forks_here-append, releases-append}
use Rattle.arachne_machine.specs.declared.pause.Pending.TheVariants as pause

-- The next action, the newest frames and the environment are replaced, and the result at the end is the same. `taken`
-- maps the accounts that fit to those after the replacement, and `answered` are the pauses that were answered. `handed`
-- of the steps that were left now belong to a child.
pub record SameOutlook (steps handed : ℕ) (answered : List Event) (fits : Account → Type 0) (taken : Account → Account) (source : Source) (name : List ℕ) (k : Control) (gs : List Frame) (env : List ℕ) (k' : Control) (gs' : List Frame) (env' : List ℕ) : Type 0 where
  pub ending : resume source name gs' (begun source name k' env') ≡ resume source name gs (begun source name k env)
  pub account : (a : Account) → fits a →
      resume_account source name gs' (begun source name k' env') (begun_account source name k' env' (taken a))
      ≡ resume_account source name gs (begun source name k env) (begun_account source name k env a)
  pub work :
      begun_work source name k' env' + resume_work source name gs' (begun source name k' env') + handed + steps
      ≡ begun_work source name k env + resume_work source name gs (begun source name k env)
  pub trace :
      with_steps steps (answered ++ (begun_trace source name k' env' ++ resume_trace source name gs' (begun source name k' env')))
      ≡ begun_trace source name k env ++ resume_trace source name gs (begun source name k env)
  pub faultless : (held : Bool) → GoesWithoutFault source held gs k → GoesWithoutFault source held gs' k'

-- the parts of a thread on which its result depends
pub record IsAt (source : Source) (name : List ℕ) (k : Control) (fs : List Frame) (env : List ℕ) (t : Strand) : Type 0 where
  pub source_is : source_of t.program.now ≡ source
  pub name_is : t.own.name ≡ name
  pub control_is : t.control ≡ k
  pub frames_are : t.frames ≡ fs
  pub environment_is : t.environment ≡ env

-- the thread itself, with its next action
pub at_itself : (old : Strand) (k : Control) → old.control ≡ k → IsAt (source_of old.program.now) old.own.name k (old.frames ++ []) old.environment old
at_itself old k is_k = record { source_is = refl; name_is = refl; control_is = is_k; frames_are = sym (append-nil old.frames); environment_is = refl }

-- with this next action all frames are still to come, as the thread has not ended
abbrev pub LeavesFrames : Control → Type 0
LeavesFrames k = (fs : List Frame) → frames_left k fs ≡ fs

pub ending_at : (source : Source) (name : List ℕ) (k : Control) (fs : List Frame) (env : List ℕ) (t : Strand) → IsAt source name k fs env t →
    ending t ≡ resume source name (frames_left k fs) (begun source name k env)
ending_at source name k fs env t at =
    ap (λ x. resume x t.own.name (frames_left t.control t.frames) (begun x t.own.name t.control t.environment)) at.source_is
    ∙ ap (λ x. resume source x (frames_left t.control t.frames) (begun source x t.control t.environment)) at.name_is
    ∙ ap (λ x. resume source name (frames_left x t.frames) (begun source name x t.environment)) at.control_is
    ∙ ap (λ x. resume source name (frames_left k x) (begun source name k t.environment)) at.frames_are
    ∙ ap (λ x. resume source name (frames_left k fs) (begun source name k x)) at.environment_is

pub account_at : (source : Source) (name : List ℕ) (k : Control) (fs : List Frame) (env : List ℕ) (t : Strand) (a : Account) → IsAt source name k fs env t →
    account_at_end t a ≡ resume_account source name (frames_left k fs) (begun source name k env) (begun_account source name k env a)
account_at source name k fs env t a at =
    ap (λ x. resume_account x t.own.name (frames_left t.control t.frames) (begun x t.own.name t.control t.environment) (begun_account x t.own.name t.control t.environment a)) at.source_is
    ∙ ap (λ x. resume_account source x (frames_left t.control t.frames) (begun source x t.control t.environment) (begun_account source x t.control t.environment a)) at.name_is
    ∙ ap (λ x. resume_account source name (frames_left x t.frames) (begun source name x t.environment) (begun_account source name x t.environment a)) at.control_is
    ∙ ap (λ x. resume_account source name (frames_left k x) (begun source name k t.environment) (begun_account source name k t.environment a)) at.frames_are
    ∙ ap (λ x. resume_account source name (frames_left k fs) (begun source name k x) (begun_account source name k x a)) at.environment_is

pub work_at : (source : Source) (name : List ℕ) (k : Control) (fs : List Frame) (env : List ℕ) (t : Strand) → IsAt source name k fs env t →
    work_left t ≡ begun_work source name k env + resume_work source name (frames_left k fs) (begun source name k env)
work_at source name k fs env t at =
    ap (λ x. begun_work x t.own.name t.control t.environment + resume_work x t.own.name (frames_left t.control t.frames) (begun x t.own.name t.control t.environment)) at.source_is
    ∙ ap (λ x. begun_work source x t.control t.environment + resume_work source x (frames_left t.control t.frames) (begun source x t.control t.environment)) at.name_is
    ∙ ap (λ x. begun_work source name x t.environment + resume_work source name (frames_left x t.frames) (begun source name x t.environment)) at.control_is
    ∙ ap (λ x. begun_work source name k t.environment + resume_work source name (frames_left k x) (begun source name k t.environment)) at.frames_are
    ∙ ap (λ x. begun_work source name k x + resume_work source name (frames_left k fs) (begun source name k x)) at.environment_is

-- the trace of the next action and the newest frames, and that of the frames below
abbrev pub trace_by : Source → List ℕ → Control → List Frame → List Frame → List ℕ → List Event
trace_by source name k fs gs env =
    let s = begun source name k env in
    (begun_trace source name k env ++ resume_trace source name gs s) ++ (resume_trace source name fs (resume source name gs s) ++ At pause.Ended ∷ [])

in_two : (xs ys zs ends : List Event) → (xs ++ (ys ++ zs)) ++ ends ≡ (xs ++ ys) ++ (zs ++ ends)
in_two xs ys zs ends = ap (λ l. l ++ ends) (sym (append_assoc xs ys zs)) ∙ append_assoc (xs ++ ys) zs ends

pub trace_at : (source : Source) (name : List ℕ) (k : Control) (fs gs : List Frame) (env : List ℕ) (t : Strand) → IsAt source name k (fs ++ gs) env t →
    frames_left k (fs ++ gs) ≡ fs ++ gs → trace_left t ≡ trace_by source name k fs gs env
trace_at source name k fs gs env t at left =
    let s = begun source name k env in
    let b = begun_trace source name k env in
    ap (λ x. begun_trace x t.own.name t.control t.environment
    ++ resume_trace x t.own.name (frames_left t.control t.frames) (begun x t.own.name t.control t.environment) ++ At pause.Ended ∷ []) at.source_is
    ∙ ap (λ x. begun_trace source x t.control t.environment
    ++ resume_trace source x (frames_left t.control t.frames) (begun source x t.control t.environment) ++ At pause.Ended ∷ []) at.name_is
    ∙ ap (λ x. begun_trace source name x t.environment
    ++ resume_trace source name (frames_left x t.frames) (begun source name x t.environment) ++ At pause.Ended ∷ []) at.control_is
    ∙ ap (λ x. begun_trace source name k t.environment
    ++ resume_trace source name (frames_left k x) (begun source name k t.environment) ++ At pause.Ended ∷ []) at.frames_are
    ∙ ap (λ x. begun_trace source name k x ++ resume_trace source name (frames_left k (fs ++ gs)) (begun source name k x) ++ At pause.Ended ∷ []) at.environment_is
    ∙ ap (λ l. b ++ resume_trace source name l s ++ At pause.Ended ∷ []) left
    ∙ ap (λ l. b ++ l ++ At pause.Ended ∷ []) (resume_trace-append source name fs gs s)
    ∙ in_two b (resume_trace source name gs s) (resume_trace source name fs (resume source name gs s)) (At pause.Ended ∷ [])

-- a thread has no fault if these parts have none
pub faultless_at : (source : Source) (name : List ℕ) (k : Control) (fs : List Frame) (env : List ℕ) (t : Strand) → IsAt source name k fs env t →
    IsWithoutFault t → GoesWithoutFault source false fs k
faultless_at source name k fs env t at h =
    subst (GoesWithoutFault source false fs) at.control_is
    (subst (λ x. GoesWithoutFault source false x t.control) at.frames_are (subst (λ x. GoesWithoutFault x false t.frames t.control) at.source_is h))

pub at_faultless : (source : Source) (name : List ℕ) (k : Control) (fs : List Frame) (env : List ℕ) (t : Strand) → IsAt source name k fs env t →
    GoesWithoutFault source false fs k → IsWithoutFault t
at_faultless source name k fs env t at h =
    subst (λ x. GoesWithoutFault x false t.frames t.control) (sym at.source_is)
    (subst (λ x. GoesWithoutFault source false x t.control) (sym at.frames_are) (subst (GoesWithoutFault source false fs) (sym at.control_is) h))

-- The forks that the newest frames and the next action join are those of the program.
abbrev pub KeepsTop : Source → List ℕ → Control → List Frame → List ℕ → Type 0
KeepsTop source name k gs env = AwaitsFork source name k env × KeepForks source name gs (begun source name k env)

pub keeps-append : (source : Source) (name : List ℕ) (fs gs : List Frame) (s : Status) → KeepForks source name (fs ++ gs) s →
    KeepForks source name gs s × KeepForks source name fs (resume source name gs s)
keeps-append source name [] gs s h = (h, tt)
keeps-append source name (f ∷ fs) gs s h =
    let both = keeps-append source name fs gs s h.1 in
    (both.0, (subst (KeepsFork source name f) (resume-append source name fs gs s) h.0, both.1))

pub append-keeps : (source : Source) (name : List ℕ) (fs gs : List Frame) (s : Status) → KeepForks source name gs s → KeepForks source name fs (resume source name gs s) →
    KeepForks source name (fs ++ gs) s
append-keeps source name [] gs s p q = p
append-keeps source name (f ∷ fs) gs s p q =
    (subst (KeepsFork source name f) (sym (resume-append source name fs gs s)) q.0, append-keeps source name fs gs s p q.1)

-- the forks that the parts of a thread join
abbrev pub KeepsBy : Source → List ℕ → Control → List Frame → List Frame → List ℕ → Type 0
KeepsBy source name k fs gs env =
    let s = begun source name k env in
    AwaitsFork source name k env × KeepForks source name gs s × KeepForks source name fs (resume source name gs s)

-- the forks that a thread of these parts joins
abbrev pub KeepsAt : Source → List ℕ → Control → List Frame → List ℕ → Type 0
KeepsAt source name k fs env = AwaitsFork source name k env × KeepForks source name (frames_left k fs) (begun source name k env)

pub keeps_there : (source : Source) (name : List ℕ) (k : Control) (fs : List Frame) (env : List ℕ) (t : Strand) → IsAt source name k fs env t →
    KeepsForks t → KeepsAt source name k fs env
keeps_there source name k fs env t at h =
    subst (λ x. KeepsAt source name k fs x) at.environment_is
    (subst (λ x. KeepsAt source name k x t.environment) at.frames_are
    (subst (λ x. KeepsAt source name x t.frames t.environment) at.control_is
    (subst (λ x. KeepsAt source x t.control t.frames t.environment) at.name_is
    (subst (λ x. KeepsAt x t.own.name t.control t.frames t.environment) at.source_is h))))

pub there_keeps : (source : Source) (name : List ℕ) (k : Control) (fs : List Frame) (env : List ℕ) (t : Strand) → IsAt source name k fs env t →
    KeepsAt source name k fs env → KeepsForks t
there_keeps source name k fs env t at h =
    subst (λ x. KeepsAt x t.own.name t.control t.frames t.environment) (sym at.source_is)
    (subst (λ x. KeepsAt source x t.control t.frames t.environment) (sym at.name_is)
    (subst (λ x. KeepsAt source name x t.frames t.environment) (sym at.control_is)
    (subst (λ x. KeepsAt source name k x t.environment) (sym at.frames_are)
    (subst (λ x. KeepsAt source name k fs x) (sym at.environment_is) h))))

pub keeps_at : (source : Source) (name : List ℕ) (k : Control) (fs gs : List Frame) (env : List ℕ) (t : Strand) → IsAt source name k (fs ++ gs) env t →
    frames_left k (fs ++ gs) ≡ fs ++ gs → KeepsForks t → KeepsBy source name k fs gs env
keeps_at source name k fs gs env t at left h =
    let s = begun source name k env in
    let here = keeps_there source name k (fs ++ gs) env t at h in
    let both = keeps-append source name fs gs s (subst (λ l. KeepForks source name l s) left here.1) in
    (here.0, both.0, both.1)

pub at_keeps : (source : Source) (name : List ℕ) (k : Control) (fs gs : List Frame) (env : List ℕ) (t : Strand) → IsAt source name k (fs ++ gs) env t →
    frames_left k (fs ++ gs) ≡ fs ++ gs → KeepsBy source name k fs gs env → KeepsForks t
at_keeps source name k fs gs env t at left h =
    let s = begun source name k env in
    there_keeps source name k (fs ++ gs) env t at
    (h.0, subst (λ l. KeepForks source name l s) (sym left) (append-keeps source name fs gs s h.1 h.2))

-- If there are no forks, there is nothing to show.
pub nothing_first : (xs ys : List ℕ) → xs ++ ys ≡ [] → (xs ≡ []) × (ys ≡ [])
nothing_first [] ys e = (refl, e)
nothing_first (x ∷ xs) ys e = cc

no_fork : (source : Source) (name : List ℕ) (f : Frame) (s : Status) → fork_of f ≡ [] → KeepsFork source name f s
no_fork source name (Join number next) s e = cc
no_fork source name (Merge number reduction) s e = cc
no_fork source name (JoinHere number child next) s e = cc
no_fork source name (MergeHere number left) s e = cc
no_fork source name _ s e = tt

no_forks : (source : Source) (name : List ℕ) (gs : List Frame) (s : Status) → forks_of gs ≡ [] → KeepForks source name gs s
no_forks source name [] s e = tt
no_forks source name (g ∷ gs) s e =
    let both = nothing_first (forks_of gs) (fork_of g) e in
    (no_fork source name g (resume source name gs s) both.1, no_forks source name gs s both.0)

none_awaited : (source : Source) (name : List ℕ) (k : Control) (env : List ℕ) → fork_awaited k ≡ [] → AwaitsFork source name k env
none_awaited source name (Awaits number during next) env e = cc
none_awaited source name (AwaitsHalf number right reduction) env e = cc
none_awaited source name _ env e = tt

pub none_kept : (source : Source) (name : List ℕ) (k : Control) (gs : List Frame) (env : List ℕ) → fork_awaited k ++ forks_of gs ≡ [] → KeepsTop source name k gs env
none_kept source name k gs env e =
    let both = nothing_first (fork_awaited k) (forks_of gs) e in
    (none_awaited source name k env both.0, no_forks source name gs (begun source name k env) both.1)

not_here : (f : Frame) → fork_of f ≡ [] → fork_here f ≡ []
not_here (JoinHere number child next) e = e
not_here (MergeHere number left) e = e
not_here _ e = refl

pub none_here : (gs : List Frame) → forks_of gs ≡ [] → forks_here gs ≡ []
none_here [] e = refl
none_here (g ∷ gs) e =
    let both = nothing_first (forks_of gs) (fork_of g) e in
    ap (λ l. l ++ fork_here g) (none_here gs both.0) ∙ not_here g both.1

-- its forks that are not joined, those of them whose children run here, and its locks
pub here_at : (source : Source) (name : List ℕ) (k : Control) (fs gs : List Frame) (env : List ℕ) (t : Strand) → IsAt source name k (fs ++ gs) env t →
    here_of t ≡ forks_here gs ++ forks_here fs
here_at source name k fs gs env t at = ap forks_here at.frames_are ∙ forks_here-append fs gs

pub unjoined_at : (source : Source) (name : List ℕ) (k : Control) (fs gs : List Frame) (env : List ℕ) (t : Strand) → IsAt source name k (fs ++ gs) env t →
    unjoined_of t ≡ (fork_awaited k ++ forks_of gs) ++ forks_of fs
unjoined_at source name k fs gs env t at =
    ap (λ x. fork_awaited x ++ forks_of t.frames) at.control_is ∙ ap (λ x. fork_awaited k ++ forks_of x) at.frames_are
    ∙ ap (λ x. fork_awaited k ++ x) (forks_of-append fs gs) ∙ sym (append_assoc (fork_awaited k) (forks_of gs) (forks_of fs))

pub locks_at : (source : Source) (name : List ℕ) (k : Control) (fs gs : List Frame) (env : List ℕ) (t : Strand) → IsAt source name k (fs ++ gs) env t →
    locks_of t ≡ (lock_freed k ++ releases gs) ++ releases fs
locks_at source name k fs gs env t at =
    ap (λ x. lock_freed x ++ releases t.frames) at.control_is ∙ ap (λ x. lock_freed k ++ releases x) at.frames_are
    ∙ ap (λ x. lock_freed k ++ x) (releases-append fs gs) ∙ sym (append_assoc (lock_freed k) (releases gs) (releases fs))

-- So two threads with these parts have the same result.
pub record SameEnd (steps handed : ℕ) (answered : List Event) (fits : Account → Type 0) (taken : Account → Account) (old new : Strand) : Type 0 where
  pub ending : ending new ≡ ending old
  pub account : (a : Account) → fits a → account_at_end new (taken a) ≡ account_at_end old a
  pub work : work_left new + handed + steps ≡ work_left old
  pub trace : with_steps steps (answered ++ trace_left new) ≡ trace_left old
  pub faultless : IsWithoutFault old → IsWithoutFault new
  pub keeps : KeepsForks old → KeepsForks new

pub same_end : (steps handed : ℕ) (answered : List Event) (fits : Account → Type 0) (taken : Account → Account) (source : Source) (name : List ℕ) (k k' : Control) (fs gs gs' : List Frame) (env env' : List ℕ) (old new : Strand) →
    IsAt source name k (fs ++ gs) env old → IsAt source name k' (fs ++ gs') env' new →
    frames_left k (fs ++ gs) ≡ fs ++ gs → frames_left k' (fs ++ gs') ≡ fs ++ gs' →
    (KeepsTop source name k gs env → KeepsTop source name k' gs' env') →
    SameOutlook steps handed answered fits taken source name k gs env k' gs' env' → SameEnd steps handed answered fits taken old new
same_end steps handed answered fits taken source name k k' fs gs gs' env env' old new at at' left left' keep same =
    let s = begun source name k env in
    let s' = begun source name k' env' in
    record {
      ending = ending_at source name k' (fs ++ gs') env' new at' ∙ ap (λ l. resume source name l s') left' ∙ resume-append source name fs gs' s'
          ∙ ap (resume source name fs) same.ending
          ∙ sym (resume-append source name fs gs s) ∙ ap (λ l. resume source name l s) (sym left) ∙ sym (ending_at source name k (fs ++ gs) env old at);
      account = λ a fit.
          let b = begun_account source name k env a in
          let b' = begun_account source name k' env' (taken a) in
          account_at source name k' (fs ++ gs') env' new (taken a) at' ∙ ap (λ l. resume_account source name l s' b') left'
          ∙ resume_account-append source name fs gs' s' b'
          ∙ ap (λ x. resume_account source name fs x (resume_account source name gs' s' b')) same.ending
          ∙ ap (resume_account source name fs (resume source name gs s)) (same.account a fit)
          ∙ sym (resume_account-append source name fs gs s b) ∙ ap (λ l. resume_account source name l s b) (sym left)
          ∙ sym (account_at source name k (fs ++ gs) env old a at);
      work =
          let now = work_at source name k' (fs ++ gs') env' new at' in
          let before = work_at source name k (fs ++ gs) env old at in
          let now_left : resume_work source name (frames_left k' (fs ++ gs')) s' ≡ resume_work source name gs' s' + resume_work source name fs (resume source name gs' s') =
          ap (λ l. resume_work source name l s') left' ∙ resume_work-append source name fs gs' s' in
          let before_left : resume_work source name (frames_left k (fs ++ gs)) s ≡ resume_work source name gs s + resume_work source name fs (resume source name gs s) =
          ap (λ l. resume_work source name l s) left ∙ resume_work-append source name fs gs s in
          let rest : resume_work source name fs (resume source name gs' s') ≡ resume_work source name fs (resume source name gs s) = ap (resume_work source name fs) same.ending in
          omega (arith, now, before, now_left, before_left, rest, same.work);
      trace =
          let below : Status → List Event = λ x. resume_trace source name fs x ++ At pause.Ended ∷ [] in
          let first = begun_trace source name k' env' ++ resume_trace source name gs' s' in
          ap (λ l. with_steps steps (answered ++ l)) (trace_at source name k' fs gs' env' new at' left')
          ∙ ap (with_steps steps) (sym (append_assoc answered first (below (resume source name gs' s'))))
          ∙ with_steps-append steps (answered ++ first) (below (resume source name gs' s'))
          ∙ ap (λ l. l ++ below (resume source name gs' s')) same.trace
          ∙ ap (λ x. (begun_trace source name k env ++ resume_trace source name gs s) ++ below x) same.ending
          ∙ sym (trace_at source name k fs gs env old at left);
      faultless = λ h.
          at_faultless source name k' (fs ++ gs') env' new at'
          (faultless_above source fs gs gs' k k' same.faultless (faultless_at source name k (fs ++ gs) env old at h));
      keeps = λ h.
          let kept = keeps_at source name k fs gs env old at left h in
          let now = keep (kept.0, kept.1) in
          at_keeps source name k' fs gs' env' new at' left' (now.0, now.1, subst (KeepForks source name fs) (sym same.ending) kept.2);
    }

abbrev pub Any : Account → Type 0
Any a = Unit {0}

abbrev pub itself : Account → Account
itself a = a

-- The replacement by this many steps of the thread itself.
abbrev pub StepOutlook : ℕ → Source → List ℕ → Control → List Frame → List ℕ → Control → List Frame → List ℕ → Type 0
StepOutlook steps source name k gs env k' gs' env' = SameOutlook steps 0 [] Any itself source name k gs env k' gs' env'

pub at_of : (mid t : Strand) (k : Control) (fs : List Frame) (env : List ℕ) → Becomes mid t env fs k → IsAt (source_of mid.program.now) mid.own.name k fs env t
at_of mid t k fs env b = assumption (ap (λ p. source_of p.now) b.program, ap (λ o. o.name) b.own)

-- a step of a thread, with unchanged frames below these
pub record Step (steps : ℕ) (k k' : Control) (fs gs gs' : List Frame) (old new : Strand) : Type 0 where
  pub goes : Goes steps [] old new
  pub pending : pending_of new.control ≡ pending_of k'
  pub locks : locks_of new ≡ (lock_freed k' ++ releases gs') ++ releases fs
  pub old_locks : locks_of old ≡ (lock_freed k ++ releases gs) ++ releases fs

pub steps_by : (steps : ℕ) (mid old new : Strand) (k k' : Control) (fs gs gs' : List Frame) (env env' : List ℕ) →
    Becomes mid old env (fs ++ gs) k → Becomes mid new env' (fs ++ gs') k' →
    frames_left k (fs ++ gs) ≡ fs ++ gs → frames_left k' (fs ++ gs') ≡ fs ++ gs' →
    fork_awaited k' ++ forks_of gs' ≡ fork_awaited k ++ forks_of gs → forks_here gs' ≡ forks_here gs →
    (KeepsTop (source_of mid.program.now) mid.own.name k gs env → KeepsTop (source_of mid.program.now) mid.own.name k' gs' env') →
    StepOutlook steps (source_of mid.program.now) mid.own.name k gs env k' gs' env' → Step steps k k' fs gs gs' old new
steps_by steps mid old new k k' fs gs gs' env env' b b' left left' forks here keep same =
    let source = source_of mid.program.now in
    let name = mid.own.name in
    let at = at_of mid old k (fs ++ gs) env b in
    let at' = at_of mid new k' (fs ++ gs') env' b' in
    let end = same_end steps 0 [] Any itself source name k k' fs gs gs' env env' old new at at' left left' keep same in
    record {
      goes = record {
        program = b'.program ∙ sym b.program;
        own = b'.own ∙ sym b.own;
        below = b'.below ∙ sym b.below;
        forks = b'.forks ∙ sym b.forks;
        unjoined = unjoined_at source name k' fs gs' env' new at' ∙ ap (λ l. l ++ forks_of fs) forks ∙ sym (unjoined_at source name k fs gs env old at);
        here = here_at source name k' fs gs' env' new at' ∙ ap (λ l. l ++ forks_here fs) here ∙ sym (here_at source name k fs gs env old at);
        ending = end.ending;
        account = λ a. end.account a tt;
        work = omega (arith, end.work);
        trace = end.trace;
        faultless = end.faultless;
        keeps = end.keeps;
      };
      pending = ap pending_of b'.control_is;
      locks = locks_at source name k' fs gs' env' new at';
      old_locks = locks_at source name k fs gs env old at;
    }

-- steps that go on
pub goes_on_by : (steps : ℕ) (mid old new : Strand) (k k' : Control) (fs gs gs' : List Frame) (env env' : List ℕ) →
    Becomes mid old env (fs ++ gs) k → Becomes mid new env' (fs ++ gs') k' →
    frames_left k (fs ++ gs) ≡ fs ++ gs → frames_left k' (fs ++ gs') ≡ fs ++ gs' →
    fork_awaited k ++ forks_of gs ≡ [] → fork_awaited k' ++ forks_of gs' ≡ [] → lock_freed k' ++ releases gs' ≡ lock_freed k ++ releases gs → pending_of k' ≡ None →
    StepOutlook steps (source_of mid.program.now) mid.own.name k gs env k' gs' env' → AfterSteps steps old None new
goes_on_by steps mid old new k k' fs gs gs' env env' b b' left left' none none' locks pending same =
    let here = none_here gs' (nothing_first (fork_awaited k') (forks_of gs') none').1 ∙ sym (none_here gs (nothing_first (fork_awaited k) (forks_of gs) none).1) in
    let s = steps_by steps mid old new k k' fs gs gs' env env' b b' left left' (none' ∙ sym none) here
    (λ h. none_kept (source_of mid.program.now) mid.own.name k' gs' env' none') same in
    (s.goes, s.pending ∙ pending, s.locks ∙ ap (λ l. l ++ releases fs) locks ∙ sym s.old_locks)

-- a thread is the same as itself
pub as_it_is : (t : Strand) → Becomes t t t.environment t.frames t.control
as_it_is t = record { program = refl; own = refl; below = refl; forks = refl; environment_is = refl; frames_are = refl; control_is = refl }

pub reshaped : (mid t : Strand) (env env' : List ℕ) (fs fs' : List Frame) (k k' : Control) → Becomes mid t env fs k → env ≡ env' → fs ≡ fs' → k ≡ k' → Becomes mid t env' fs' k'
reshaped mid t env env' fs fs' k k' b d e f = assumption (b.environment_is ∙ d, b.frames_are ∙ e, b.control_is ∙ f)

pub framed_as : (mid t : Strand) (env : List ℕ) (fs fs' : List Frame) (k k' : Control) → Becomes mid t env fs k → fs ≡ fs' → k ≡ k' → Becomes mid t env fs' k'
framed_as mid t env fs fs' k k' b e f = reshaped mid t env env fs fs' k k' b refl e f

-- if the newest frame was taken off, the thread was the one that is left, with that frame
pub given_off : (before mid : Strand) (v : ℕ) (f : Frame) → IsPopped f before mid → mid.control ≡ Give v → Becomes mid before mid.environment (mid.frames ++ f ∷ []) (Give v)
given_off before mid v f popped gives = framed_as mid before mid.environment (mid.frames ++ f ∷ []) (mid.frames ++ f ∷ []) mid.control (Give v) popped refl gives

-- the value to hand on before a change has no influence on its result
pub as_giving : (t new : Strand) (v : ℕ) (env : List ℕ) (fs : List Frame) (k : Control) → Becomes t new env fs k → Becomes (giving t v) new env fs k
as_giving t new v env fs k b = assumption

-- the next action before a change has no influence on its result
pub as_beginning : (t new : Strand) (e : Bor Expr) (env : List ℕ) (fs : List Frame) (k : Control) → Becomes t new env fs k → Becomes (beginning t e) new env fs k
as_beginning t new e env fs k b = assumption

-- it begins this expression next
pub begins_with : (t new : Strand) (e : Bor Expr) (env : List ℕ) (fs : List Frame) (k : Control) → Becomes t new env fs k → Becomes t (beginning new e) env fs (Begin e)
begins_with t new e env fs k b = assumption

-- only the control is new
pub given_from : (t : Strand) (v : ℕ) (k k' : Control) → k ≡ k' → Becomes (giving t v) (record t { control = k }) t.environment t.frames k'
given_from t v k k' e = record { program = refl; own = refl; below = refl; forks = refl; environment_is = refl; frames_are = refl; control_is = e }

-- one change after another
pub later : (mid outer new : Strand) (env env' : List ℕ) (fs fs' : List Frame) (k k' : Control) → Becomes mid outer env fs k → Becomes outer new env' fs' k' → Becomes mid new env' fs' k'
later mid outer new env env' fs fs' k k' b c = assumption (c.program ∙ b.program, c.own ∙ b.own, c.below ∙ b.below, c.forks ∙ b.forks)

-- a thread of which no frame is taken off
pub alone : (mid t : Strand) (env : List ℕ) (k : Control) → Becomes mid t env mid.frames k → Becomes mid t env (mid.frames ++ []) k
alone mid t env k b = framed_as mid t env mid.frames (mid.frames ++ []) k k b (sym (append-nil mid.frames)) refl

-- a thread of which only the control is new
pub given : (t : Strand) (k k' : Control) → k ≡ k' → Becomes t (record t { control = k }) t.environment t.frames k'
given t k k' e = record { program = refl; own = refl; below = refl; forks = refl; environment_is = refl; frames_are = refl; control_is = e }
