-- A claim by one look and one try. The idea: a won try gives one more context that is out with the seat (`keeps-more`),
-- which it did not carry before. More tries, or a place chosen by another rule, change `ClaimAnswer` and
-- `IsLowestFree`.
use Rattle.std.proofs.Common.{◌<◌, ℕ, ◌∙◌, ap, sym, subst, refl, arith, false}
use Rattle.arachne_core.specs.Occupancy.{occupancy_word}
use Rattle.arachne_rule.specs.{Layout.occ_index, Views.carried_at}
use Rattle.arachne_words.specs.{Seats.{CallView, claimed_by}, Calls.{looked, lost_claim, won_claim}}
use Rattle.arachne_words.proofs.Out.{out-bound, keeps-more}
use Rattle.arachne_words.proofs.table.WordContexts.claim.Goals as goal

pub overflow_add-seat : goal.overflow_add-seat
overflow_add-seat g c = omega (arith, out-bound _ _ _ c.seat.invariant.2, ap (λ v. v.table.slots) c.seat.view_is, ap (λ t. t.slots) c.requires.own, ap (λ v. v.table.slots) c.self.view_is, c.self.invariant.laid_out.few)

pub invariant_of-seat-in-Ok : goal.invariant_of-seat-in-Ok
invariant_of-seat-in-Ok g c =
    let won = c.in-Ok.ensures.won in
    let i : ℕ = occ_index c.args.self.now.table.slots c.args.core in
    let a = claimed_by (record { place = record { core = c.args.core; index = c.in-Some.index }; alone = false }) won.0 won.1 in
    let inside = subst (λ t. won.0 < t.slots) (sym (ap (λ v. v.table) c.seat.view_is ∙ c.requires.own)) won.2 in
    keeps-more c.seat.inside.at c.try_claim.new.seat c.seat.inside.weight c.seat.inside.out _ c.seat.invariant
    (won.4 ∙ ap (λ (v : CallView g.row.T.Denot). record v { known = won_claim i (occupancy_word c.see_core-seen.result) a v.known }) c.see_core-seen.ensures.seat) a inside
    (ap (λ v. carried_at won.0 v.known.carried) (sym c.see_core-seen.ensures.seat) ∙ won.3) refl

pub returns-in-Err-clause-answer : goal.returns-in-Err-clause-answer
returns-in-Err-clause-answer g c =
    let lost = c.in-Err.ensures.lost in
    let i : ℕ = occ_index c.args.self.now.table.slots c.args.core in
    let word : ℕ = occupancy_word c.see_core-seen.result in
    (word, lost.0, ap (λ v. v.known) lost.1 ∙ ap (λ v. lost_claim i c.in-Err.found v.known) c.see_core-seen.ensures.seat ∙ ap (λ v. lost_claim i c.in-Err.found (looked i word v.known)) c.seat.view_is)
