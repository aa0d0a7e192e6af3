-- A thread that has not begun, in the place of one that has ended.
use Rattle.std.{proofs.Common.{◌≡◌, [], ◌∷◌, ◌++◌, None, false, refl, ap, ◌∙◌, arith, append-nil}, specs.Borrow.Bor}
use Rattle.arachne_program.specs.{declared.program.Program.Program, Program.source_of}
use Rattle.arachne_program.specs.{Effects.{tabulated, task_effects, task_value}, Value.Environment}
use Rattle.arachne_machine.specs.declared.frame.Control.{Control, TheVariants.{Begin, Cover}}
use Rattle.arachne_machine.specs.{Strands.{Owned, Strand}, Account.{after, untouched}}
use Rattle.arachne_machine.specs.Ending.{begun, begun_account, begun_trace, begun_work, environment_of, fork_awaited, forks_of, forks_here, frames_left, lock_freed, releases, resume, resume_account, resume_work}
use Rattle.arachne_machine.specs.{Trace.{At, task_trace}, Work.task_work, Faultless.{IsFaultlessNext, IsWithoutFault}}
use Rattle.arachne_machine.specs.Steps.{HasNotBegun, IsBeginning, IsNew, pending_of, task_begun}
use Rattle.arachne_machine.proofs.Outlooks.{IsAt, KeepsBy, account_at, at_faultless, at_keeps, ending_at, trace_at, work_at}
use Rattle.arachne_machine.specs.declared.pause.Pending.TheVariants as pause

begins_at : (program : Bor Program) (own : Owned) (k : Control) (env : Environment) (t : Strand) → HasNotBegun program own k env t →
    IsAt (source_of program.now) own.name k [] env t
begins_at program own k env t r = assumption (ap (λ p. source_of p.now) r.program_is, ap (λ o. o.name) r.own_is)

-- A thread that has not begun, given its next action: its result is that of the action; it awaits and releases nothing,
-- and has no forks.
begins_by : (program : Bor Program) (own : Owned) (k : Control) (env : Environment) (t : Strand) →
    own.holds ≡ tabulated program.now.locks (λ lock. 0) → HasNotBegun program own k env t →
    fork_awaited k ≡ [] → lock_freed k ≡ [] → pending_of k ≡ None → frames_left k [] ≡ [] →
    begun_work (source_of program.now) own.name k env ≡ task_work (source_of program.now).arrays (task_begun k env) →
    begun_trace (source_of program.now) own.name k env ≡ task_trace (source_of program.now).arrays (task_begun k env) →
    (begun (source_of program.now) own.name k env).value ≡ task_value (source_of program.now).arrays (task_begun k env) →
    (begun (source_of program.now) own.name k env).env ≡ environment_of (task_begun k env) →
    begun_account (source_of program.now) own.name k env untouched ≡ after own.name (task_effects (source_of program.now).arrays program.now.locks (task_begun k env)) untouched →
    KeepsBy (source_of program.now) own.name k [] [] env → IsNew program.now own.name own.label (task_begun k env) t
begins_by program own k env t holds r no_fork no_lock running left work trace value environment account keeps =
    let source = source_of program.now in
    let at = begins_at program own k env t r in
    let s = begun source own.name k env in
    record {
      same_program = ap (λ p. p.now) r.program_is;
      has_name = ap (λ o. o.name) r.own_is;
      has_label = ap (λ o. o.label) r.own_is;
      holds = ap (λ o. o.holds) r.own_is ∙ holds;
      below = r.below;
      forks = r.forks;
      unjoined = ap (λ x. fork_awaited x ++ forks_of t.frames) r.control_is ∙ ap (λ l. l ++ forks_of t.frames) no_fork ∙ ap forks_of r.frames;
      here = ap forks_here r.frames;
      locks = ap (λ x. lock_freed x ++ releases t.frames) r.control_is ∙ ap (λ l. l ++ releases t.frames) no_lock ∙ ap releases r.frames;
      pending = ap pending_of r.control_is ∙ running;
      work =
          let rest = ap (λ l. resume_work source own.name l s) left in
          omega (arith, work_at source own.name k [] env t at, rest, work);
      trace = trace_at source own.name k [] [] env t at left ∙ ap (λ l. l ++ At pause.Ended ∷ []) (append-nil (begun_trace source own.name k env) ∙ trace);
      value = ap (λ x. x.value) (ending_at source own.name k [] env t at) ∙ ap (λ l. (resume source own.name l s).value) left ∙ value;
      environment = ap (λ x. x.env) (ending_at source own.name k [] env t at) ∙ ap (λ l. (resume source own.name l s).env) left ∙ environment;
      keeps = at_keeps source own.name k [] [] env t at left keeps;
      account = account_at source own.name k [] env t untouched at ∙ ap (λ l. resume_account source own.name l s (begun_account source own.name k env untouched)) left ∙ account;
    }

pub begins_new : (program : Bor Program) (own : Owned) (k : Control) (env : Environment) (t : Strand) → IsBeginning k →
    own.holds ≡ tabulated program.now.locks (λ lock. 0) → HasNotBegun program own k env t → IsNew program.now own.name own.label (task_begun k env) t
begins_new program own (Begin expr) env t begins holds r = begins_by program own (Begin expr) env t holds r refl refl refl refl refl refl refl refl refl (tt, tt, tt)
begins_new program own (Cover stretch) env t begins holds r = begins_by program own (Cover stretch) env t holds r refl refl refl refl refl refl refl refl refl (tt, tt, tt)
begins_new program own _ env t begins holds r = absurd begins

pub begins_task : (program : Bor Program) (own : Owned) (k : Control) (env : Environment) (t : Strand) → HasNotBegun program own k env t →
    task_begun t.control t.environment ≡ task_begun k env
begins_task program own k env t r = ap (λ x. task_begun x t.environment) r.control_is ∙ ap (task_begun k) r.environment_is

pub begins_faultless : (program : Bor Program) (own : Owned) (k : Control) (env : Environment) (t : Strand) → HasNotBegun program own k env t →
    IsFaultlessNext (source_of program.now) false k → IsWithoutFault t
begins_faultless program own k env t r h = at_faultless (source_of program.now) own.name k [] env t (begins_at program own k env t r) (tt, h)
