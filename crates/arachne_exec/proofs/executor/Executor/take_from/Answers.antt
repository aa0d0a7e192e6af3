use Rattle.std.proofs.Common.{◌≡◌, ℕ, ◌+◌, ◌*◌, ◌/◌, ◌%◌, ◌^◌, ◌≤◌, ◌∙◌, Bool, List, ◌∷◌, IsTrue, ◌↔◌, inr, refl, ap, sym, subst, arith}
use Rattle.atomic_table.specs.Table.{rest}
use Rattle.arachne_exec.specs.declared.{answers.HeldJob.HeldJob, turns.TakenJob.TakenJob}
use Rattle.arachne_exec.specs.{Layout.{ready_at, mark_at}, Changes.{newest_job, gained, noted, using_up}}
use Rattle.arachne_exec.specs.{Seats.{CallView, HasNewest}, Turns.IsFirstFrom, Calls.HasTakenFrom}
use Rattle.arachne_exec.proofs.Chains.{missed}
use Rattle.arachne_exec.proofs.executor.Executor.take_from.Goals.{After-first_from-index, After-refresh-mark}
use Rattle.arachne_exec.proofs.executor.Executor.take_from.Goals as goal

-- what was noted of the ready word
saw : (c : goal.After-first_from-index) → c.look-ready.new.seat.known ≡ noted (ready_at c.args.block) c.look-ready.result c.args.seat.now.known
saw c = ap (λ v. v.known) c.look-ready.ensures.seat ∙ (λ i. noted (c.ready_word.ensures i) c.look-ready.result (ap (λ v. v.known) c.seat.view_is i))

-- the slot of the place that was found is the newest
came : (c : goal.After-refresh-mark) → c.refresh-mark.new.seat.slots ≡ (64 * c.args.block + c.first_from-index.result, (c.if-not-take_bit.ensures.took refl).1) ∷ c.look-ready.new.seat.slots
came c = ap (λ v. v.slots) c.refresh-mark.ensures.1 ∙ ap (λ v. v.slots) (c.if-not-take_bit.ensures.took refl).3

pub returns-then-not-take_bit-clause-none : goal.returns-then-not-take_bit-clause-none
returns-then-not-take_bit-clause-none c =
    let then = c.if-not-take_bit.ensures.missed refl in
    let looked = saw (goal.at.returns-then-not-take_bit-clause-none c).After-first_from-index in
    inr (missed ready_at c.args.block c.first_from-index.result c.look-ready.result then.0 _ _ _ c.first_from-index.ensures.low c.first_from-index.ensures.there looked then.1 (ap (λ v. v.known) then.2))

-- the place whose bit was taken is the newest in hand
pub refresh-mark-requires-clause-newest : goal.refresh-mark-requires-clause-newest
refresh-mark-requires-clause-newest c =
    let got = c.if-not-take_bit.ensures.took refl in
    let place : ℕ = 64 * c.args.block + c.first_from-index.result in
    (got.1, got.1, subst (λ (v : CallView). HasNewest place got.1 got.1 v) (sym got.3) (record { hand = refl; slot = refl }))

pub lay-job-requires-clause-out : goal.lay-job-requires-clause-out
lay-job-requires-clause-out c =
    let job = (c.if-not-take_bit.ensures.took refl).1 in
    let slots = came (goal.at.lay-job-requires-clause-out c).After-refresh-mark in
    (job, slots ∙ ap (λ (l : List (ℕ × ℕ)). (64 * c.args.block + c.first_from-index.result, job) ∷ l) (sym (ap rest slots)))

abbrev taken_with : Bool → HeldJob → TakenJob
taken_with more job = record { job = job; more = more }

pub returns-clause-took : goal.returns-clause-took
returns-clause-took c =
    let index = c.first_from-index.result in
    let low = c.first_from-index.ensures.low in
    let place : ℕ = 64 * c.args.block + index in
    let got = c.if-not-take_bit.ensures.took refl in
    let mark = c.refresh-mark.ensures in
    let at = goal.at.returns-clause-took c in
    let same : got.1 ≡ c.lay-job.result = sym (ap newest_job (came at.After-refresh-mark)) ∙ ap newest_job c.lay-job.ensures.found in
    let row : place / 64 ≡ c.args.block = omega (arith, low) in
    let held = ap (λ v. v.known) got.3 ∙ (λ i. gained place (same i) (noted (ready_at (row i)) got.0 (saw at.After-first_from-index i))) in
    let back : index ≡ place % 64 = omega (arith, low) in
    subst (λ (taken : TakenJob). HasTakenFrom c.args.from taken c.args.block c.args.seat.now.known c.lay.new.seat.known)
    (sym (ap (taken_with c.has_more.result) c.job_at.ensures))
    (record {
      turn = record {
        took = record {
          there = row;
          ready = c.look-ready.result;
          found = got.0;
          taken = got.2;
          mark = c.refresh-mark.result;
          named = refl;
          then = mark.0;
          known =
              ap (λ v. v.known) c.lay.ensures.seat
              ∙ ap (λ v. v.known) c.lay-job.ensures.seat
              ∙ ap (λ v. v.known) mark.1
              ∙ ap (λ k. using_up c.refresh-mark.result place mark.0 (noted (mark_at place) c.refresh-mark.result k)) held;
        };
        first = subst (IsFirstFrom c.look-ready.result c.args.from) back c.first_from-index.ensures;
      };
      more = subst (λ (i : ℕ). IsTrue c.has_more.result ↔ (2 * 2 ^ i ≤ c.look-ready.result)) back c.has_more.ensures;
    })
