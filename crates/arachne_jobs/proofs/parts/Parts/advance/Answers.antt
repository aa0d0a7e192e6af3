use Rattle.std.proofs.Common.{◌≡◌, ℕ, ap, refl, subst, inl, inr}
use Rattle.arachne_machine.specs.{Advance.Moves, Tallying.{AdvancesOver, Dues}, declared.pause.Pause.Pause}
use Rattle.arachne_jobs.specs.{Dues.{GoesOnOver, MayJoin}, Threads.{Posted, Thread}}
use Rattle.arachne_jobs.proofs.parts.Parts.advance.Goals as goal

-- the thread of the parts has gone on, and a join may be answered
goes_on : {had left : ℕ} {inside old paused new : Thread} {gives : Pause} {due new_due : Dues}
    → inside ≡ old → AdvancesOver had left inside gives paused due new_due → MayJoin paused new → GoesOnOver had left old new due new_due
goes_on {had} {left} {paused = paused} {gives = gives} {due = due} {new_due = new_due} same over last = record {
  paused = paused;
  gives = gives;
  over = subst (λ (t : Thread). AdvancesOver had left t gives paused due new_due) same over;
  last = last;
}

pub returns-in-Budget-clause-tallied : goal.returns-in-Budget-clause-tallied
returns-in-Budget-clause-tallied c = goes_on (ap (λ (p : Posted). p.thread) c.self.view_is) c.in_ok-paused.ensures.over (inl refl)

pub returns-in-Forks-clause-tallied : goal.returns-in-Forks-clause-tallied
returns-in-Forks-clause-tallied c = goes_on (ap (λ (p : Posted). p.thread) c.self.view_is) c.in_ok-paused.ensures.over (inl refl)

pub returns-in-Asks-clause-tallied : goal.returns-in-Asks-clause-tallied
returns-in-Asks-clause-tallied c = goes_on (ap (λ (p : Posted). p.thread) c.self.view_is) c.in_ok-paused.ensures.over (inl refl)

pub returns-in-Frees-clause-tallied : goal.returns-in-Frees-clause-tallied
returns-in-Frees-clause-tallied c = goes_on (ap (λ (p : Posted). p.thread) c.self.view_is) c.in_ok-paused.ensures.over (inl refl)

pub returns-in-Tallies-clause-tallied : goal.returns-in-Tallies-clause-tallied
returns-in-Tallies-clause-tallied c = goes_on (ap (λ (p : Posted). p.thread) c.self.view_is) c.in_ok-paused.ensures.over (inl refl)

pub returns-in-Ended-clause-tallied : goal.returns-in-Ended-clause-tallied
returns-in-Ended-clause-tallied c = goes_on (ap (λ (p : Posted). p.thread) c.self.view_is) c.in_ok-paused.ensures.over (inl refl)

pub returns-then-branch-clause-tallied : goal.returns-then-branch-clause-tallied
returns-then-branch-clause-tallied c =
    goes_on (ap (λ (p : Posted). p.thread) c.self.view_is) c.in_ok-paused.ensures.over
    (inr (
      (subst (λ (gives : Pause). Moves c.args.left.now c.self.inside.thread gives c.advance_tallying-paused.new.self) c.in-Joins.is c.in_ok-paused.ensures.ok).pending,
      c.in_ok-join-in-Joins.ensures.answered c.if-branch.true,
    ))

pub returns-else-branch-clause-tallied : goal.returns-else-branch-clause-tallied
returns-else-branch-clause-tallied c =
    goes_on (ap (λ (p : Posted). p.thread) c.self.view_is) c.in_ok-paused.ensures.over
    (inl (ap (λ (p : Posted). p.thread) (c.in_ok-join-in-Joins.ensures.same c.if-branch.false)))
