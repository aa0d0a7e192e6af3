-- A held thread is put back. The idea: its slot is taken and its value put into it (`taken`, `restable-now`), which is
-- the condition of `rest_ready` and `try_rest_blocked`; each of the three ways is one equation of the seat
-- (`made-ready`, `made-blocked`, `forestalled`). Another step changes that of its way, and `RestAnswer`.
use Rattle.std.proofs.Common.{◌≡◌, ℕ, ◌∙◌, ap, sym, subst, refl, None, ◌∷◌}
use Rattle.arachne_core.specs.declared.{layout.TheConstants.CORE_BITS, place.Place.Place, thread_id.ThreadId.ThreadId}
use Rattle.arachne_core.specs.{Marked.{Marked, mark_word}, declared.state.Rest.Rest}
use Rattle.arachne_core.specs.declared.mark.Mark.TheVariants as mark
use Rattle.arachne_rule.specs.{declared.view.{Carried.Carried, Known.Known}, Layout.{Contexts, name_index}}
use Rattle.arachne_rule.specs.Views.{noted, with_context, without_context}
use Rattle.arachne_rule.specs.declared.view.Kind.TheVariants as kind
use Rattle.arachne_words.specs.{Seats.{CallView, HoldView, held_by, marked_by}, Sizes.IsPlaceIn}
use Rattle.arachne_words.specs.{Steps.{HasLast, IsAtHome, IsRestable}, Calls.{learned, RestAnswer}}
use Rattle.arachne_words.proofs.RestCall.{out_with, at-home, restable, restable-again, after-ready, after-blocked, after-lost, blocked-else}
use Rattle.arachne_words.proofs.table.WordContexts.rest_thread.Goals.{After-place, After-take_slot-context, After-with_mark-ready, After-rest_ready, In_default-try_rest_blocked, In-Err, After-rest_ready-in-Err}
use Rattle.arachne_contexts.specs.declared.answers.Rested.TheVariants as rested
use Rattle.arachne_words.proofs.table.WordContexts.rest_thread.Given as given
use Rattle.arachne_words.proofs.table.WordContexts.rest_thread.Goals as goal

abbrev hold : ThreadId → Marked → HoldView
hold id held = record { id = id; place = held.place; alone = held.alone }

-- the knowledge of a seat after a thread with this tag is no longer out: its place word was seen
abbrev put : Contexts → HoldView → ℕ → Known → Known
put z h tag k = learned (name_index z.table.slots h.place) h.id.context (without_context k (held_by h tag))

home : (g : given.Over) (c : goal.After-place g) → IsAtHome c.args.self.now c.place.result c.args.seat.now.known (held_by (hold c.args.id c.args.held) (g.T.Tagged.tag_of c.args.value))
home g c =
    let h = hold c.args.id c.args.held in
    subst (λ (p : Place). IsAtHome c.args.self.now p c.args.seat.now.known (held_by h (g.T.Tagged.tag_of c.args.value))) (sym c.place.ensures.value)
    (at-home g.T.Tagged.tag_of c.args.self.now h c.args.value c.args.seat.now.known c.requires.thread)

taken : (g : given.Over) (c : goal.After-take_slot-context g) → (c.take_slot-context.result ≡ c.args.id.context)
    × (c.take_slot-context.new.seat ≡ record c.args.seat.now {
      known = learned (name_index c.args.self.now.table.slots c.args.held.place) c.take_slot-context.result (with_context c.args.seat.now.known (out_with g.T.Tagged.tag_of c.args.self.now (hold c.args.id c.args.held) c.args.value));
      slots = (c.take_slot-context.result, None) ∷ c.args.seat.now.slots;
    })
taken g c =
    let h = hold c.args.id c.args.held in
    let out : Carried = out_with g.T.Tagged.tag_of c.args.self.now h c.args.value in
    let told = c.take_slot-context.ensures (held_by h (g.T.Tagged.tag_of c.args.value)) (home g (goal.at.After-take_slot-context g c).After-place) in (
      told.0,
      told.1 ∙ ap (λ (p : Place). record c.args.seat.now {
        known = learned (name_index c.args.self.now.table.slots p) c.take_slot-context.result (with_context c.args.seat.now.known out);
        slots = (c.take_slot-context.result, None) ∷ c.args.seat.now.slots;
      }) c.place.ensures.value,
    )

own : (g : given.Over) (c : goal.After-with_mark-ready g) → c.lay_in.new.seat.table ≡ c.args.self.now.table
own g c = ap (λ v. v.table) c.lay_in.ensures ∙ ap (λ v. v.table) (taken g (goal.at.After-with_mark-ready g c).After-take_slot-context).1 ∙ c.requires.own

restable-now : (g : given.Over) (c : goal.After-with_mark-ready g) → IsRestable g.T.Tagged.tag_of c.args.self.now c.lay_in.new.seat c.take_slot-context.result (out_with g.T.Tagged.tag_of c.args.self.now (hold c.args.id c.args.held) c.args.value) c.args.value
restable-now g c =
    restable g.T.Tagged.tag_of c.args.self.now (hold c.args.id c.args.held) c.args.value c.args.seat.now c.take_slot-context.new.seat c.lay_in.new.seat c.take_slot-context.result c.requires.thread
    (taken g (goal.at.After-with_mark-ready g c).After-take_slot-context) c.lay_in.ensures

ready : (g : given.Over) (c : goal.After-with_mark-ready g) → c.with_mark-ready.result ≡ marked_by mark.Ready (hold c.args.id c.args.held)
ready g c = c.with_mark-ready.ensures ∙ ap (λ (m : Marked). record m { mark = mark.Ready }) c.requires.held

made-ready : (g : given.Over) (c : goal.After-rest_ready g) → (before : ℕ) × (c.rest_ready.new.seat ≡ record c.args.seat.now {
  known = noted kind.RestReady c.args.id.context before (mark_word CORE_BITS (marked_by mark.Ready (hold c.args.id c.args.held)))
      (put c.args.self.now (hold c.args.id c.args.held) (g.T.Tagged.tag_of c.args.value) c.args.seat.now.known);
})
made-ready g c =
    let at = goal.at.After-rest_ready g c in
    let h = hold c.args.id c.args.held in
    let told = c.rest_ready.ensures (out_with g.T.Tagged.tag_of c.args.self.now h c.args.value) c.args.value (restable-now g at.After-with_mark-ready) in (
      told.0,
      after-ready g.T.Tagged.tag_of c.args.self.now h c.args.value c.args.seat.now c.take_slot-context.new.seat c.lay_in.new.seat c.take_slot-context.result c.requires.thread
          (taken g at.After-take_slot-context) c.lay_in.ensures c.rest_ready.new.seat told.0 c.with_mark-ready.result (ready g at.After-with_mark-ready) told.1,
    )

-- the exchange was made
made-blocked : (g : given.Over) (c : goal.In_default-try_rest_blocked g) → c.try_rest_blocked.new.seat ≡ record c.args.seat.now {
  known = noted kind.RestBlocked c.args.id.context (mark_word CORE_BITS (marked_by mark.Held (hold c.args.id c.args.held))) (mark_word CORE_BITS (marked_by mark.Blocked (hold c.args.id c.args.held)))
      (put c.args.self.now (hold c.args.id c.args.held) (g.T.Tagged.tag_of c.args.value) c.args.seat.now.known);
}
made-blocked g c =
    let at = goal.at.In_default-try_rest_blocked g c in
    let h = hold c.args.id c.args.held in
    let told = c.in_default-try_rest_blocked.ensures.won (out_with g.T.Tagged.tag_of c.args.self.now h c.args.value) c.args.value (restable-now g at.After-with_mark-ready) in
    after-blocked g.T.Tagged.tag_of c.args.self.now h c.args.value c.args.seat.now c.take_slot-context.new.seat c.lay_in.new.seat c.take_slot-context.result c.requires.thread
    (taken g at.After-take_slot-context) c.lay_in.ensures c.try_rest_blocked.new.seat c.args.held c.requires.held told

-- the exchange was lost to a wake: the thread's value is still in its slot
restable-still : (g : given.Over) (c : goal.In-Err g) → IsRestable g.T.Tagged.tag_of c.args.self.now c.try_rest_blocked.new.seat c.take_slot-context.result (out_with g.T.Tagged.tag_of c.args.self.now (hold c.args.id c.args.held) c.args.value) c.args.value
restable-still g c =
    restable-again g.T.Tagged.tag_of c.args.self.now (hold c.args.id c.args.held) c.args.value c.args.seat.now c.take_slot-context.new.seat c.lay_in.new.seat c.take_slot-context.result c.requires.thread
    (taken g (goal.at.In-Err g c).After-take_slot-context) c.lay_in.ensures c.try_rest_blocked.new.seat c.in-Err._woken c.in-Err.ensures.lost.1

forestalled : (g : given.Over) (c : goal.After-rest_ready-in-Err g) → (before : ℕ) × (c.rest_ready-in-Err.new.seat ≡ record c.args.seat.now {
  known = noted kind.RestReady c.args.id.context before (mark_word CORE_BITS (marked_by mark.Ready (hold c.args.id c.args.held)))
      (noted kind.RestBlocked c.args.id.context c.in-Err._woken c.in-Err._woken (put c.args.self.now (hold c.args.id c.args.held) (g.T.Tagged.tag_of c.args.value) c.args.seat.now.known));
})
forestalled g c =
    let at = goal.at.After-rest_ready-in-Err g c in
    let h = hold c.args.id c.args.held in
    let told = c.rest_ready-in-Err.ensures (out_with g.T.Tagged.tag_of c.args.self.now h c.args.value) c.args.value (restable-still g at.In-Err) in (
      told.0,
      after-lost g.T.Tagged.tag_of c.args.self.now h c.args.value c.args.seat.now c.take_slot-context.new.seat c.lay_in.new.seat c.take_slot-context.result c.requires.thread
          (taken g at.After-take_slot-context) c.lay_in.ensures c.try_rest_blocked.new.seat c.in-Err._woken c.in-Err.ensures.lost.1 c.rest_ready-in-Err.new.seat told.0 c.with_mark-ready.result (ready g at.After-with_mark-ready) told.1,
    )

pub take_slot-context-requires-clause-place : goal.take_slot-context-requires-clause-place
take_slot-context-requires-clause-place g c = subst (λ (p : Place). IsPlaceIn c.args.self.now.shape p) (sym c.place.ensures.value) c.requires.thread.placed

pub take_slot-context-requires-clause-carried : goal.take_slot-context-requires-clause-carried
take_slot-context-requires-clause-carried g c = (held_by (hold c.args.id c.args.held) (g.T.Tagged.tag_of c.args.value), home g c)

pub lay_in-requires-clause-slot : goal.lay_in-requires-clause-slot
lay_in-requires-clause-slot g c = subst (λ (v : CallView g.row.T.Denot). HasLast v.slots c.take_slot-context.result None) (sym (taken g (goal.at.lay_in-requires-clause-slot g c).After-take_slot-context).1) refl

pub lay_in-requires-clause-own : goal.lay_in-requires-clause-own
lay_in-requires-clause-own g c = ap (λ v. v.table) (taken g (goal.at.lay_in-requires-clause-own g c).After-take_slot-context).1 ∙ c.requires.own

pub rest_ready-requires-clause-own : goal.rest_ready-requires-clause-own
rest_ready-requires-clause-own g c = own g (goal.at.rest_ready-requires-clause-own g c).After-with_mark-ready

pub rest_ready-requires-clause-restable : goal.rest_ready-requires-clause-restable
rest_ready-requires-clause-restable g c =
    let at = (goal.at.rest_ready-requires-clause-restable g c).After-with_mark-ready in
    (out_with g.T.Tagged.tag_of c.args.self.now (hold c.args.id c.args.held) c.args.value, c.args.value, restable-now g at, ready g at)

pub try_rest_blocked-requires-clause-own : goal.try_rest_blocked-requires-clause-own
try_rest_blocked-requires-clause-own g c = own g (goal.at.try_rest_blocked-requires-clause-own g c).After-with_mark-ready

pub try_rest_blocked-requires-clause-restable : goal.try_rest_blocked-requires-clause-restable
try_rest_blocked-requires-clause-restable g c =
    let at = (goal.at.try_rest_blocked-requires-clause-restable g c).After-with_mark-ready in
    (out_with g.T.Tagged.tag_of c.args.self.now (hold c.args.id c.args.held) c.args.value, c.args.value, restable-now g at, c.requires.held)

pub rest_ready-requires-in-Err-clause-own : goal.rest_ready-requires-in-Err-clause-own
rest_ready-requires-in-Err-clause-own g c = ap (λ v. v.table) c.in-Err.ensures.lost.1 ∙ own g (goal.at.rest_ready-requires-in-Err-clause-own g c).After-with_mark-ready

pub rest_ready-requires-in-Err-clause-restable : goal.rest_ready-requires-in-Err-clause-restable
rest_ready-requires-in-Err-clause-restable g c =
    let at = goal.at.rest_ready-requires-in-Err-clause-restable g c in
    (out_with g.T.Tagged.tag_of c.args.self.now (hold c.args.id c.args.held) c.args.value, c.args.value, restable-still g at.In-Err, ready g at.After-with_mark-ready)

pub returns-in-Ready-clause-seat : goal.returns-in-Ready-clause-seat
returns-in-Ready-clause-seat g c =
    let whole = (made-ready g c).1 in
    λ i. record { table = (whole i).table; weight = (whole i).weight; known = c.rest_ready.new.seat.known; slots = (whole i).slots }

pub returns-in-Ready-clause-carried : goal.returns-in-Ready-clause-carried
returns-in-Ready-clause-carried g c = ap (λ v. v.known.carried) (made-ready g c).1

pub returns-in-Ready-clause-answer : goal.returns-in-Ready-clause-answer
returns-in-Ready-clause-answer g c =
    let told = made-ready g c in
    subst (λ (r : Rest). RestAnswer c.args.self.now (hold c.args.id c.args.held) (g.T.Tagged.tag_of c.args.value) c.args.seat.now.known r rested.AsAsked c.rest_ready.new.seat.known) (sym c.in-Ready.is)
    (told.0, ap (λ v. v.known) told.1)

pub returns-in-Err-clause-seat : goal.returns-in-Err-clause-seat
returns-in-Err-clause-seat g c =
    let whole = (forestalled g c).1 in
    λ i. record { table = (whole i).table; weight = (whole i).weight; known = c.rest_ready-in-Err.new.seat.known; slots = (whole i).slots }

pub returns-in-Err-clause-carried : goal.returns-in-Err-clause-carried
returns-in-Err-clause-carried g c = ap (λ v. v.known.carried) (forestalled g c).1

pub returns-in-Err-clause-answer : goal.returns-in-Err-clause-answer
returns-in-Err-clause-answer g c =
    let told = forestalled g c in
    let found = c.in-Err.ensures.lost.0 ∙ ap (λ (m : Marked). mark_word CORE_BITS (record m { mark = mark.Woken })) c.requires.held in
    subst (λ (r : Rest). RestAnswer c.args.self.now (hold c.args.id c.args.held) (g.T.Tagged.tag_of c.args.value) c.args.seat.now.known r rested.WokenMeanwhile c.rest_ready-in-Err.new.seat.known)
    (sym (blocked-else c.args.rest c.in_default.not-Ready)) (c.in-Err._woken, told.0, found, ap (λ v. v.known) told.1)

pub returns-clause-seat : goal.returns-clause-seat
returns-clause-seat g c =
    let whole = made-blocked g c in
    λ i. record { table = (whole i).table; weight = (whole i).weight; known = c.try_rest_blocked.new.seat.known; slots = (whole i).slots }

pub returns-clause-carried : goal.returns-clause-carried
returns-clause-carried g c = ap (λ v. v.known.carried) (made-blocked g c)

pub returns-clause-answer : goal.returns-clause-answer
returns-clause-answer g c =
    subst (λ (r : Rest). RestAnswer c.args.self.now (hold c.args.id c.args.held) (g.T.Tagged.tag_of c.args.value) c.args.seat.now.known r rested.AsAsked c.try_rest_blocked.new.seat.known)
    (sym (blocked-else c.args.rest c.in_default.not-Ready)) (ap (λ v. v.known) (made-blocked g c))
