-- A take. The idea: the place word and the mark word were seen, the exchange was won and the value taken out, so the
-- context is one that was taken there (`is-taken`), and the seat didn't carry it before (`was-not`). `keep_name` then
-- makes one equation of the seat from all of it (`kept`). One step more or less changes that equation, in `TakeSteps`,
-- and `HasTaken`.
use Rattle.std.proofs.Common.{◌≡◌, ◌<◌, ℕ, [], ◌∙◌, ap, sym, subst, refl, arith}
use Rattle.arachne_core.specs.{declared.{layout.TheConstants.CORE_BITS, place.Place.Place}, Marked.mark_word}
use Rattle.arachne_core.specs.declared.mark.Mark.TheVariants as mark
use Rattle.arachne_rule.specs.{declared.view.Known.Known, Layout.name_index, Views.{noted, with_context, carried_at}}
use Rattle.arachne_rule.specs.declared.view.Kind.TheVariants as kind
use Rattle.arachne_words.specs.{Seats.{CallView, HoldView, held_by, marked_by}, Steps.IsTaken}
use Rattle.arachne_words.{specs.Calls.{looked, learned, HasTaken}, proofs.Out.{out-bound, keeps-more}}
use Rattle.arachne_words.proofs.TakeSteps.{first, hold_of, taken, fresh-first, same-value, after}
use Rattle.arachne_words.proofs.table.WordContexts.take.Goals.{After-take_out-value, After-keep_name}
use Rattle.arachne_words.proofs.table.WordContexts.take.Given as given
use Rattle.arachne_words.proofs.table.WordContexts.take.Goals as goal

is-taken : (g : given.Over) (c : goal.After-take_out-value g) → IsTaken c.args.self.now c.take_out-value.new.seat c.see_name-context.result (record { core = c.args.core; index = c.args.index }) (first c.args.self.now (record { core = c.args.core; index = c.args.index }) c.see_name-context.result c.see_name-context.ensures.context c.see_mark-seen.result (g.T.Tagged.tag_of c.in-Ok.ensures.won.0))
is-taken g c =
    let won = c.in-Ok.ensures.won in
    let is = c.is_ready_at.ensures.0 c.if-not-is_ready_at.false in
    taken c.args.self.now (record { core = c.args.core; index = c.args.index }) c.see_name-context.result c.see_name-context.ensures.context c.see_mark-seen.result (g.T.Tagged.tag_of c.in-Ok.ensures.won.0) c.seat.inside.at c.see_name-context.new.seat c.see_mark-seen.new.seat c.try_take.new.seat c.take_out-value.new.seat won.0 is.0 is.1 c.see_name-context.ensures.seat c.see_mark-seen.ensures.seat won.1 won.2 c.take_out-value.ensures.seat

was-not : (g : given.Over) (c : goal.After-take_out-value g) → carried_at c.see_name-context.result c.seat.inside.at.known.carried ≡ []
was-not g c =
    let won = c.in-Ok.ensures.won in
    let is = c.is_ready_at.ensures.0 c.if-not-is_ready_at.false in
    fresh-first c.args.self.now (record { core = c.args.core; index = c.args.index }) c.see_name-context.result c.see_name-context.ensures.context c.see_mark-seen.result (g.T.Tagged.tag_of c.in-Ok.ensures.won.0) c.seat.inside.at c.see_name-context.new.seat c.see_mark-seen.new.seat c.try_take.new.seat c.take_out-value.new.seat won.0 is.0 is.1 c.see_name-context.ensures.seat c.see_mark-seen.ensures.seat won.1 won.2 c.take_out-value.ensures.seat

kept : (g : given.Over) (c : goal.After-keep_name g) → (before : ℕ) × (c.keep_name.new.seat ≡ record c.seat.inside.at {
  known = noted kind.KeepName (name_index c.args.self.now.table.slots (record { core = c.args.core; index = c.args.index })) before c.see_name-context.result
      (noted kind.Take c.see_name-context.result (mark_word CORE_BITS (marked_by mark.Ready (hold_of c.args.self.now (record { core = c.args.core; index = c.args.index }) c.see_name-context.result c.see_name-context.ensures.context c.see_mark-seen.result (g.T.Tagged.tag_of c.in-Ok.ensures.won.0)))) (mark_word CORE_BITS (marked_by mark.Held (hold_of c.args.self.now (record { core = c.args.core; index = c.args.index }) c.see_name-context.result c.see_name-context.ensures.context c.see_mark-seen.result (g.T.Tagged.tag_of c.in-Ok.ensures.won.0))))
      (looked c.see_name-context.result (mark_word CORE_BITS (marked_by mark.Ready (hold_of c.args.self.now (record { core = c.args.core; index = c.args.index }) c.see_name-context.result c.see_name-context.ensures.context c.see_mark-seen.result (g.T.Tagged.tag_of c.in-Ok.ensures.won.0)))) (learned (name_index c.args.self.now.table.slots (record { core = c.args.core; index = c.args.index })) c.see_name-context.result
      (with_context c.seat.inside.at.known (held_by (hold_of c.args.self.now (record { core = c.args.core; index = c.args.index }) c.see_name-context.result c.see_name-context.ensures.context c.see_mark-seen.result (g.T.Tagged.tag_of c.in-Ok.ensures.won.0)) (g.T.Tagged.tag_of c.in-Ok.ensures.won.0))))));
})
kept g c =
    let won = c.in-Ok.ensures.won in
    let is = c.is_ready_at.ensures.0 c.if-not-is_ready_at.false in
    let told = c.keep_name.ensures (first c.args.self.now (record { core = c.args.core; index = c.args.index }) c.see_name-context.result c.see_name-context.ensures.context c.see_mark-seen.result (g.T.Tagged.tag_of c.in-Ok.ensures.won.0)) (is-taken g (goal.at.After-keep_name g c).After-take_out-value) in
    (told.0, after c.args.self.now (record { core = c.args.core; index = c.args.index }) c.see_name-context.result c.see_name-context.ensures.context c.see_mark-seen.result (g.T.Tagged.tag_of c.in-Ok.ensures.won.0) c.seat.inside.at c.see_name-context.new.seat c.see_mark-seen.new.seat c.try_take.new.seat c.take_out-value.new.seat won.0 is.0 is.1 c.see_name-context.ensures.seat c.see_mark-seen.ensures.seat won.1 won.2 c.take_out-value.ensures.seat c.keep_name.new.seat told.0 told.1)

pub keep_name-requires-clause-taken : goal.keep_name-requires-clause-taken
keep_name-requires-clause-taken g c = (first c.args.self.now (record { core = c.args.core; index = c.args.index }) c.see_name-context.result c.see_name-context.ensures.context c.see_mark-seen.result (g.T.Tagged.tag_of c.in-Ok.ensures.won.0), is-taken g (goal.at.keep_name-requires-clause-taken g c).After-take_out-value)

pub overflow_add-seat : goal.overflow_add-seat
overflow_add-seat g c = omega (arith, out-bound _ _ _ c.seat.invariant.2, ap (λ v. v.table.slots) c.seat.view_is, ap (λ t. t.slots) c.requires.own, ap (λ v. v.table.slots) c.self.view_is, c.self.invariant.laid_out.few)

pub overflow_cast-hold : goal.overflow_cast-hold
overflow_cast-hold g c = omega (arith, c.see_name-context.ensures.context, ap (λ v. v.table.slots) c.self.view_is, c.self.invariant.laid_out.few)

pub invariant_of-seat-in-Ok : goal.invariant_of-seat-in-Ok
invariant_of-seat-in-Ok g c =
    let at = goal.at.invariant_of-seat-in-Ok g c in
    let inside = subst (λ t. c.see_name-context.result < t.slots) (sym (ap (λ v. v.table) c.seat.view_is ∙ c.requires.own)) c.see_name-context.ensures.context in
    keeps-more c.seat.inside.at c.keep_name.new.seat c.seat.inside.weight c.seat.inside.out _ c.seat.invariant (kept g at.After-keep_name).1
    (held_by (hold_of c.args.self.now (record { core = c.args.core; index = c.args.index }) c.see_name-context.result c.see_name-context.ensures.context c.see_mark-seen.result (g.T.Tagged.tag_of c.in-Ok.ensures.won.0)) (g.T.Tagged.tag_of c.in-Ok.ensures.won.0)) inside (was-not g at.After-take_out-value) refl

pub returns-in-Ok-clause-seat : goal.returns-in-Ok-clause-seat
returns-in-Ok-clause-seat g c =
    (ap (λ v. v.table) (kept g (goal.at.returns-in-Ok-clause-seat g c).After-keep_name).1 ∙ ap (λ v. v.table) c.seat.view_is, ap (λ v. v.weight) c.seat.view_is)

pub returns-in-Ok-clause-answer : goal.returns-in-Ok-clause-answer
returns-in-Ok-clause-answer g c =
    let at = goal.at.returns-in-Ok-clause-answer g c in
    let told = kept g at.After-keep_name in
    let tag_of = g.T.Tagged.tag_of in
    let p : Place = record { core = c.args.core; index = c.args.index } in
    let h : HoldView = hold_of c.args.self.now (record { core = c.args.core; index = c.args.index }) c.see_name-context.result c.see_name-context.ensures.context c.see_mark-seen.result (g.T.Tagged.tag_of c.in-Ok.ensures.won.0) in
    let value = same-value (ap (λ v. v.slots) c.in-Ok.ensures.won.2) c.take_out-value.ensures.value in
    let hold : h ≡ record { id = record { context = c.see_name-context.result; generation = c.generation.result }; place = p; alone = c.is_alone.result } =
    λ i. record { id = record { context = c.see_name-context.result; generation = sym c.generation.ensures.value i }; place = p; alone = sym c.is_alone.ensures i } in
    let has : HasTaken c.args.self.now p c.seat.inside.at.known h (tag_of c.in-Ok.ensures.won.0) c.keep_name.new.seat.known =
    record { place_is = refl; inside = c.see_name-context.ensures.context; fresh = was-not g at.After-take_out-value; named_before = told.0; steps = ap (λ v. v.known) told.1 } in
    subst (λ (q : HoldView). HasTaken c.args.self.now p c.args.seat.now.known q (tag_of c.take_out-value.result) c.keep_name.new.seat.known) hold
    (subst (λ v. HasTaken c.args.self.now p c.args.seat.now.known h (tag_of v) c.keep_name.new.seat.known) (sym value)
    (subst (λ (q : Known). HasTaken c.args.self.now p q h (tag_of c.in-Ok.ensures.won.0) c.keep_name.new.seat.known) (ap (λ v. v.known) c.seat.view_is) has))

pub returns-in-Err-clause-answer : goal.returns-in-Err-clause-answer
returns-in-Err-clause-answer g c =
    let p : Place = record { core = c.args.core; index = c.args.index } in
    let lost = c.in-Err.ensures.lost in
    let x : ℕ = c.see_name-context.result in
    let word : ℕ = mark_word CORE_BITS c.see_mark-seen.result in
    let i : ℕ = name_index c.args.self.now.table.slots p in (
      x,
      word,
      lost.0,
      ap (λ v. v.known) lost.1 ∙ ap (λ v. noted kind.Take x c.in-Err.found c.in-Err.found v.known) (c.see_mark-seen.ensures.seat ∙ ap (λ (v : CallView g.row.T.Denot). record v { known = looked x word v.known }) c.see_name-context.ensures.seat)
          ∙ ap (λ v. noted kind.Take x c.in-Err.found c.in-Err.found (looked x word (learned i x v.known))) c.seat.view_is,
    )
