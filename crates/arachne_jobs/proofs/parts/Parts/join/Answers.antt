use Rattle.std.proofs.Common.{◌∙◌, ap, subst, inl, inr}
use Rattle.arachne_machine.specs.Nested.{pending_in}
use Rattle.arachne_jobs.specs.{Threads.{Posted, Thread, program_of}, Cells.IsFoundOf, Dues.IsJoined}
use Rattle.arachne_jobs.specs.declared.left.Found.{Found}
use Rattle.arachne_jobs.proofs.parts.Parts.join.Goals as goal

pub returns-in_ok-joined_into-in-Outcome-clause-answered : goal.returns-in_ok-joined_into-in-Outcome-clause-answered
returns-in_ok-joined_into-in-Outcome-clause-answered c = λ none.
    let joined = c.in_ok-joined_into-in-Outcome.ensures in
    subst (λ (t : Thread). IsJoined t c.joined_into.new.self) (ap (λ (p : Posted). p.thread) (c.self.view_is ∙ c.in_ok-outcome.ensures.same))
    (inl (c.in-Outcome.outcome, (joined.ok, joined.sums, joined.others)))

pub returns-in_ok-run_inside-in-Child-clause-answered : goal.returns-in_ok-run_inside-in-Child-clause-answered
returns-in_ok-run_inside-in-Child-clause-answered c = λ none.
    let same = ap (λ (p : Posted). p.thread) c.in_ok-outcome.ensures.same in
    let found = subst (λ (f : Found). IsFoundOf (program_of c.args.self.now.thread) f) c.in-Child.is c.in_ok-outcome.ensures.found in
    subst (λ (t : Thread). IsJoined t c.run_inside.new.self.thread) same
    (inr (c.in-Child.child, found.1, c.in_ok-run_inside-in-Child.ensures.at_join (ap (λ (t : Thread). pending_in t) same ∙ c.requires)))
