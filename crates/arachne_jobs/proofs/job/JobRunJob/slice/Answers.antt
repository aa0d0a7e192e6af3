use Rattle.std.proofs.Common.{◌≡◌, ◌∙◌, Some, Option, Result, Ok, Err, OnOk, IfSome, ap, sym, subst, inl, inr}
use Rattle.std.proofs.lemmas.Result.{IfOk-weaker}
use Rattle.arachne_machine.specs.declared.pause.Pending.TheVariants as pause
use Rattle.arachne_machine.specs.Nested.{pending_in}
use Rattle.arachne_jobs.specs.{Dues.{HasTallied, MayJoin, due_to}, Slices.IsLeft, Threads.{IsJobForking, IsForking, Posted, Thread, job_pause, pause_of}}
use Rattle.arachne_jobs.specs.declared.slice.Slice.{Slice, TheVariants.Goes}
use Rattle.arachne_jobs.proofs.job.JobRunJob.slice.Goals.{in-None, in-Some-Joins+in_ok-join-in-Some-Joins+else-not-branch}
use Rattle.arachne_jobs.proofs.job.JobRunJob.slice.Goals as goal

-- a box is left as the job in it
left_in_box : (slice : Slice Thread) (job : Posted) → IsLeft (λ (j : Posted) (child : Thread). IsForking j.thread child) (λ (j : Posted). pause_of j.thread) slice job
    → IsLeft IsJobForking job_pause slice (Some job)
left_in_box Goes job left = left
left_in_box _ job left = left

-- what follows of a good end
on_ok : {T E P Q : Type 0} (result : Result T E) → (P → Q) → OnOk result P → OnOk result Q
on_ok (Ok value) f p = f p
on_ok (Err fault) f p = p

pub returns-clause-left : goal.returns-clause-left
returns-clause-left c = IfOk-weaker c.advance.result _ _ (λ slice left. left_in_box slice _ left) c.advance.ensures.left

pub returns-clause-tallied : goal.returns-clause-tallied
returns-clause-tallied c =
    let here : Some c.in-Some.parts ≡ c.args.self.now = sym c.in-Some.is ∙ c.deref_mut.ensures.value ∙ c.self.view_is in
    on_ok c.advance.result (λ goes. subst (λ (job : Option Posted). IfSome job (λ old. HasTallied c.args.left.now c.advance.new.left
    old.thread c.advance.new.self.thread (due_to c.args.openings.now.due) (due_to c.advance.new.openings.due))) here (inr (
      c.match-pending.parts.thread,
      elim c.match-pending.branch [
        | in-None w ↦ inl (ap (λ (p : Posted). p.thread) w.parts-is)
        | in-Some-Joins+in_ok-join-in-Some-Joins+else-not-branch w ↦ subst (λ (p : Posted). MayJoin c.in-Some.parts.thread p.thread) (sym w.parts-is)
            (inr (
              subst (λ (t : Thread). pending_in t ≡ Some pause.Joins) (ap (λ (p : Posted). p.thread) c.parts.view_is)
                  (let asked = c.pending.ensures.pending in let is = w.in-Some-Joins.is in let joins = w.in-Some-Joins.field-0-is in cc),
              w.in_ok-join-in-Some-Joins.ensures.answered w.if-not-branch.false,
            ))
      ],
      goes,
    ))) c.advance.ensures.tallied
