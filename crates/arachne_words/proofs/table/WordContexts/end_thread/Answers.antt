-- The end of a thread. The idea: the hold's fields are those of its model (`inner`), so `retire` is about them
-- (`retired-as`), and `release` gives back the claim that it left; both are one equation of the seat (`ended`). Another
-- order of the two changes that, and `HasFinished`.
use Rattle.std.proofs.Common.{◌≡◌, ℕ, ◌+◌, ◌-◌, ◌∙◌, ap, sym, subst, arith}
use Rattle.arachne_core.specs.{declared.layout.TheConstants.CORE_BITS, Marked.mark_word}
use Rattle.arachne_rule.specs.declared.view.Kind.TheVariants as kind
use Rattle.arachne_rule.specs.Changes.{retired, spent_known, claimed_again, marked_free, release_sum}
use Rattle.arachne_rule.specs.{Layout.occ_index, Views.{noted, without}}
use Rattle.arachne_words.specs.{Seats.{HoldView, HasThread, held_by}, Calls.HasFinished}
use Rattle.arachne_words.proofs.FinishSteps.{carries, claimed, after}
use Rattle.arachne_words.proofs.table.WordContexts.end_thread.Goals.{After-retire, After-release}
use Rattle.arachne_words.proofs.table.WordContexts.end_thread.Given as given
use Rattle.arachne_words.proofs.table.WordContexts.end_thread.Goals as goal

-- the hold, by its fields
abbrev inner : (g : given.Over) → goal.After-retire g → HoldView
inner g c = record { id = c.hold.inside.id; place = c.hold.inside.place; alone = c.hold.inside.alone }

has-thread : (g : given.Over) (c : goal.After-retire g) (tag : ℕ) → HasThread c.args.self.now c.args.seat.now.known c.args.hold.now tag → HasThread c.args.self.now c.args.seat.now.known (inner g c) tag
has-thread g c tag has = subst (λ (v : HoldView). HasThread c.args.self.now c.args.seat.now.known v tag) (sym c.hold.view_is) has

retired-as : (g : given.Over) (c : goal.After-retire g) (tag : ℕ) → HasThread c.args.self.now c.args.seat.now.known c.args.hold.now tag → (before : ℕ) × (c.retire.new.seat ≡ record c.args.seat.now {
  known = noted kind.Retire c.hold.inside.id.context before (mark_word CORE_BITS (marked_free (claimed_again (held_by (inner g c) tag)))) (retired c.args.seat.now.known (held_by (inner g c) tag));
})
retired-as g c tag has =
    subst (λ (v : HoldView). (t : ℕ) → HasThread c.args.self.now c.args.seat.now.known v t
    → (before : ℕ) × (c.retire.new.seat ≡ record c.args.seat.now { known = noted kind.Retire v.id.context before (mark_word CORE_BITS (marked_free (claimed_again (held_by v t)))) (retired c.args.seat.now.known (held_by v t)) }))
    (sym c.hold.view_is) c.retire.ensures tag (has-thread g c tag has)

ended : (g : given.Over) (c : goal.After-release g) (tag : ℕ) → HasThread c.args.self.now c.args.seat.now.known c.args.hold.now tag
    → (before found : ℕ) × (c.release.new.seat ≡ record c.args.seat.now {
      known = noted kind.Release (occ_index c.args.self.now.table.slots c.hold.inside.place.core) found (found - release_sum (held_by (inner g (goal.at.After-release g c).After-retire) tag))
          (noted kind.Retire c.hold.inside.id.context before (mark_word CORE_BITS (marked_free (claimed_again (held_by (inner g (goal.at.After-release g c).After-retire) tag))))
          (spent_known c.args.seat.now.known (held_by (inner g (goal.at.After-release g c).After-retire) tag)));
    })
ended g c tag given =
    let at = (goal.at.After-release g c).After-retire in
    let h : HoldView = inner g at in
    let has = has-thread g at tag given in
    let told = retired-as g at tag given in
    let freed = c.release.ensures h.id.context (h.id.generation + 1) has.inside (carries c.args.self.now h tag c.args.seat.now c.retire.new.seat has told.0 told.1) in
    (told.0, freed.0, after c.args.self.now h tag c.args.seat.now c.retire.new.seat has told.0 told.1 (occ_index c.args.self.now.table.slots h.place.core) freed.0 c.release.new.seat freed.1)

pub retire-requires-clause-more : goal.retire-requires-clause-more
retire-requires-clause-more g c =
    let ne = λ (e : c.args.hold.now.id.generation ≡ c.args.self.now.shape.last).
    c.if-hold-self.false (ap (λ (v : HoldView). v.id.generation) c.hold.view_is ∙ e ∙ sym (c.self.invariant.last_is ∙ ap (λ v. v.shape.last) c.self.view_is)) in
    omega (arith, ne, c.hold.invariant.0, ap (λ (v : HoldView). v.id.generation) c.hold.view_is, c.self.invariant.last_fit, ap (λ v. v.shape.last) c.self.view_is)

pub release-requires-clause-own : goal.release-requires-clause-own
release-requires-clause-own g c = ap (λ v. v.table) (retired-as g (goal.at.release-requires-clause-own g c).After-retire c.requires.thread.0 c.requires.thread.1).1 ∙ c.requires.own

pub release-requires-clause-claim : goal.release-requires-clause-claim
release-requires-clause-claim g c =
    let at = (goal.at.release-requires-clause-claim g c).After-retire in
    let has = has-thread g at c.requires.thread.0 c.requires.thread.1 in
    let told = retired-as g at c.requires.thread.0 c.requires.thread.1 in
    claimed c.args.self.now (inner g at) c.requires.thread.0 c.args.seat.now c.retire.new.seat has told.0 told.1

pub returns-clause-seat : goal.returns-clause-seat
returns-clause-seat g c =
    let whole = (ended g c c.requires.thread.0 c.requires.thread.1).2 in
    λ i. record { table = (whole i).table; weight = (whole i).weight; known = c.release.new.seat.known; slots = (whole i).slots }

pub returns-clause-carried : goal.returns-clause-carried
returns-clause-carried g c =
    ap (λ v. v.known.carried) (ended g c c.requires.thread.0 c.requires.thread.1).2 ∙ ap (λ (v : HoldView). without v.id.context c.args.seat.now.known.carried) c.hold.view_is

pub returns-clause-finished : goal.returns-clause-finished
returns-clause-finished g c tag given =
    let told = ended g c tag given in
    let more = λ (e : c.hold.inside.id.generation ≡ c.args.self.now.shape.last). c.if-hold-self.false (e ∙ sym (c.self.invariant.last_is ∙ ap (λ v. v.shape.last) c.self.view_is)) in
    subst (λ (v : HoldView). HasFinished c.args.self.now c.args.seat.now.known v tag c.release.new.seat.known) c.hold.view_is
    (record { before = told.0; ends = λ ne. (told.1, ap (λ v. v.known) told.2); spends = λ e. absurd (more e) })

pub returns-then-hold-self-clause-seat : goal.returns-then-hold-self-clause-seat
returns-then-hold-self-clause-seat g c =
    let told = c.spend.ensures c.requires.thread.0 c.requires.thread.1 in
    λ i. record { table = (told.1 i).table; weight = (told.1 i).weight; known = c.spend.new.seat.known; slots = (told.1 i).slots }

pub returns-then-hold-self-clause-carried : goal.returns-then-hold-self-clause-carried
returns-then-hold-self-clause-carried g c = ap (λ v. v.known.carried) (c.spend.ensures c.requires.thread.0 c.requires.thread.1).1

pub returns-then-hold-self-clause-finished : goal.returns-then-hold-self-clause-finished
returns-then-hold-self-clause-finished g c tag given =
    let same = ap (λ (v : HoldView). v.id.generation) (sym c.hold.view_is) ∙ c.if-hold-self.true ∙ c.self.invariant.last_is ∙ ap (λ v. v.shape.last) c.self.view_is in
    let told = c.spend.ensures tag given in
    record { before = told.0; ends = λ ne. absurd (ne same); spends = λ e. ap (λ v. v.known) told.1 }
