-- A move of a thread that was seen at rest: look at the core, claim its lowest free place, and move there. The idea:
-- the claim's equation is about the seat as it was before the look (`won`), so `move_to` finds the claim, and its
-- result is a step of `SeenAnswer`. Another way to choose the place changes `HasRoom` and the last result.
use Rattle.std.proofs.Common.{◌≡◌, ◌<◌, ℕ, [], ◌∙◌, ap, sym, subst, refl, inl}
use Rattle.arachne_core.specs.{declared.place.Place.Place, Occupancy.{Occupancy, occupancy_word}}
use Rattle.arachne_rule.specs.{declared.view.Carried.Carried, Layout.occ_index, Plays.Carries}
use Rattle.arachne_rule.{specs.Views.{without, carried_at}, proofs.Carrying.with-at}
use Rattle.arachne_words.{proofs.table.WordContexts.move_seen.Goals.In_default-try_claim, specs.Moves.shared_claim}
use Rattle.arachne_words.specs.{Calls.{looked, won_claim, lost_claim, IsLowestFree}, Seats.{CallView, claimed_by}}
use Rattle.arachne_words.proofs.{MoveCall.{to-carried, seen-answer}, Out.{without-with, without-fresh}}
use Rattle.arachne_words.proofs.table.WordContexts.move_seen.Given as given
use Rattle.arachne_words.proofs.table.WordContexts.move_seen.Goals as goal

-- the context of the claim, at the place that was free
abbrev claimed_at : ℕ → ℕ → ℕ → ℕ → Carried
claimed_at core index y generation = claimed_by (shared_claim (record { core = core; index = index })) y generation

-- the claim was won: the seat has its context, which it did not carry, and knows the words of the look and the exchange
record Won (g : given.Over) (c : goal.In_default-try_claim g) : Type 0 where
  context : ℕ
  generation : ℕ
  inside : context < c.args.self.now.table.slots
  fresh : carried_at context c.args.seat.now.known.carried ≡ []
  steps : c.try_claim.new.seat ≡ record c.args.seat.now {
    known = won_claim (occ_index c.args.self.now.table.slots c.args.to) (occupancy_word c.see_core-room.result) (claimed_at c.args.to c.in-Some.index context generation)
        (looked (occ_index c.args.self.now.table.slots c.args.to) (occupancy_word c.see_core-room.result) c.args.seat.now.known);
  }
  carried : Carries c.try_claim.new.seat.known (claimed_at c.args.to c.in-Some.index context generation)

won : (g : given.Over) (c : goal.In_default-try_claim g) → Won g c
won g c =
    let is = c.in_default-try_claim.ensures.won in
    let i : ℕ = occ_index c.args.self.now.table.slots c.args.to in
    let a : Carried = claimed_at c.args.to c.in-Some.index is.0 is.1 in
    let steps = is.4 ∙ ap (λ (v : CallView g.row.T.Denot). record v { known = won_claim i (occupancy_word c.see_core-room.result) a v.known }) c.see_core-room.ensures.seat in
    record {
      context = is.0;
      generation = is.1;
      inside = is.2;
      fresh = ap (λ (v : CallView g.row.T.Denot). carried_at is.0 v.known.carried) (sym c.see_core-room.ensures.seat) ∙ is.3;
      steps = steps;
      carried = subst (λ (v : CallView g.row.T.Denot). Carries v.known a) (sym steps) (with-at a is.0 c.args.seat.now.known.carried refl);
    }

pub move_to-requires-clause-claim : goal.move_to-requires-clause-claim
move_to-requires-clause-claim g c =
    let is = won g (goal.at.move_to-requires-clause-claim g c).In_default-try_claim in
    record { context = is.context; generation = is.generation; placed = (c.requires.places.0, c.in-Some.ensures.some.inside); inside = is.inside; carried = is.carried }

pub returns-clause-seat : goal.returns-clause-seat
returns-clause-seat g c =
    let whole = (won g (goal.at.returns-clause-seat g c).In_default-try_claim).steps in
    let seat = c.move_to.ensures.seat in
    (seat.0 ∙ ap (λ v. v.table) whole, seat.1 ∙ ap (λ v. v.weight) whole, seat.2 ∙ ap (λ v. v.slots) whole)

pub returns-clause-carried : goal.returns-clause-carried
returns-clause-carried g c =
    let is = won g (goal.at.returns-clause-carried g c).In_default-try_claim in
    let target : Place = record { core = c.args.to; index = c.in-Some.index } in
    to-carried c.args.self.now c.args.moving c.args.seen target is.context is.generation c.try_claim.new.seat.known c.move_to.new.seat.known c.move_to.result (c.move_to.ensures.answer is.context is.generation is.inside is.carried)
    ∙ ap (λ (v : CallView g.row.T.Denot). without is.context v.known.carried) is.steps
    ∙ without-with (claimed_at c.args.to c.in-Some.index is.context is.generation) c.args.seat.now.known.carried ∙ without-fresh is.context c.args.seat.now.known.carried is.fresh

pub returns-clause-answer : goal.returns-clause-answer
returns-clause-answer g c =
    let is = won g (goal.at.returns-clause-answer g c).In_default-try_claim in
    let read = c.see_core-room.ensures.read in
    seen-answer c.args.self.now c.args.moving c.args.seen c.args.to c.args.seat.now.known c.move_to.new.seat.known c.move_to.result (occupancy_word c.see_core-room.result) c.in-Some.index is.context is.generation c.try_claim.new.seat.known
    (record {
      is_open = ap (λ (o : Occupancy). o.closed) read ∙ sym c.is_closed.ensures ∙ c.if-is_closed.false;
      lowest = subst (λ (o : Occupancy). IsLowestFree c.args.self.now.shape.places_per_core o c.in-Some.index) (sym read) c.in-Some.ensures.some;
      inside = is.inside;
      fresh = is.fresh;
      steps = ap (λ v. v.known) is.steps;
    }) (c.move_to.ensures.answer is.context is.generation is.inside is.carried)

pub returns-in-Err-clause-answer : goal.returns-in-Err-clause-answer
returns-in-Err-clause-answer g c =
    let lost = c.in-Err.ensures.lost in
    let i : ℕ = occ_index c.args.self.now.table.slots c.args.to in
    inl (occupancy_word c.see_core-room.result, lost.0, ap (λ v. v.known) lost.1 ∙ ap (λ (v : CallView g.row.T.Denot). lost_claim i c.in-Err.found v.known) c.see_core-room.ensures.seat)
