-- A post at a claimed place. The idea: the claim is read by the seat's fields (`mine`). With it, the take of the slot,
-- the look, and the value put into the slot give the condition of the store (`may-post`) and one equation of the seat
-- (`posted-whole`), both for any context that the claim may have. One step more or less changes these two, and
-- `HasPosted`.
use Rattle.std.proofs.Common.{◌≡◌, ℕ, ◌<◌, ◌∙◌, ap, sym, subst, refl, arith, None, ◌∷◌}
use Rattle.arachne_core.specs.{declared.{layout.TheConstants.CORE_BITS, thread_id.ThreadId.ThreadId}, Marked.mark_word}
use Rattle.arachne_core.specs.declared.mark.Mark.TheVariants as mark
use Rattle.arachne_rule.specs.declared.view.Kind.TheVariants as kind
use Rattle.arachne_rule.specs.{declared.view.Known.Known, Changes.{marked_as, posted}, Layout.{Contexts, name_index}}
use Rattle.arachne_rule.specs.{Plays.Carries, Views.{noted, with_context}}
use Rattle.arachne_words.specs.{Seats.{CallView, ClaimView, HasClaim, claimed_by}, Steps.{HasLast, IsPostable}}
use Rattle.arachne_words.{specs.Calls.{looked, learned, HasPosted}, proofs.Out.keeps-less}
use Rattle.arachne_words.proofs.PostSteps.{out_with, at-home, generation, postable, after}
use Rattle.arachne_words.proofs.table.WordContexts.post.Goals.{After-take_slot-context, After-new-ready, After-store_posted}
use Rattle.arachne_words.proofs.table.WordContexts.post.Given as given
use Rattle.arachne_words.proofs.table.WordContexts.post.Goals as goal

-- the fields of claim and seat are those of their models
has-claim : (z : Contexts) (claim inner : ClaimView) (k inner_k : Known) → inner ≡ claim → inner_k ≡ k → HasClaim z k claim → HasClaim z inner_k inner
has-claim z claim inner k inner_k is known has = subst (λ (q : Known). HasClaim z q inner) (sym known) (subst (λ (v : ClaimView). HasClaim z k v) (sym is) has)

mine : (g : given.Over) (c : goal.After-take_slot-context g) → HasClaim c.args.self.now c.seat.inside.at.known (record { place = c.claim.inside.place; alone = c.claim.inside.alone })
mine g c = has-claim c.args.self.now c.args.claim _ c.args.seat.now.known _ c.claim.view_is (ap (λ v. v.known) c.seat.view_is) c.requires.claim

slot-out : (g : given.Over) (c : goal.After-take_slot-context g) (x y : ℕ) (inside : x < c.args.self.now.table.slots) → Carries c.seat.inside.at.known (claimed_by (record { place = c.claim.inside.place; alone = c.claim.inside.alone }) x y)
    → (c.take_slot-context.result ≡ x) × (c.take_slot-context.new.seat ≡ record c.seat.inside.at {
      known = learned (name_index c.args.self.now.table.slots c.claim.inside.place) c.take_slot-context.result
          (with_context c.seat.inside.at.known (out_with c.args.self.now (record { place = c.claim.inside.place; alone = c.claim.inside.alone }) x y inside));
      slots = (c.take_slot-context.result, None) ∷ c.seat.inside.at.slots;
    })
slot-out g c x y inside has =
    let claim : ClaimView = record { place = c.claim.inside.place; alone = c.claim.inside.alone } in
    c.take_slot-context.ensures (claimed_by claim x y) (at-home c.args.self.now claim x y inside c.seat.inside.at.known has)

-- the context of the contract's claim
slot-mine : (g : given.Over) (c : goal.After-take_slot-context g) → (c.take_slot-context.result < c.args.self.now.table.slots) × (c.take_slot-context.new.seat.table ≡ c.args.self.now.table) × HasLast c.take_slot-context.new.seat.slots c.take_slot-context.result None
slot-mine g c =
    let is = mine g c in
    let out = slot-out g c is.context is.generation is.inside is.carried in (
      subst (λ (x : ℕ). x < c.args.self.now.table.slots) (sym out.0) is.inside,
      ap (λ v. v.table) out.1 ∙ ap (λ v. v.table) c.seat.view_is ∙ c.requires.own,
      subst (λ (v : CallView g.row.T.Denot). HasLast v.slots c.take_slot-context.result None) (sym out.1) refl,
    )

ready-is : (g : given.Over) (c : goal.After-new-ready g)
    → c.new-ready.result ≡ record { mark = mark.Ready; alone = c.claim.inside.alone; place = c.claim.inside.place; generation = c.see_mark.result.generation }
ready-is g c = c.new-ready.ensures ∙ (λ i. record { mark = mark.Ready; alone = c.claim.inside.alone; place = c.claim.inside.place; generation = c.generation-generation.ensures.value i })

may-post : (g : given.Over) (c : goal.After-new-ready g) (x y : ℕ) (inside : x < c.args.self.now.table.slots) → Carries c.seat.inside.at.known (claimed_by (record { place = c.claim.inside.place; alone = c.claim.inside.alone }) x y)
    → IsPostable c.args.self.now c.lay_in.new.seat c.take_slot-context.result c.new-ready.result (out_with c.args.self.now (record { place = c.claim.inside.place; alone = c.claim.inside.alone }) x y inside) c.args.value
may-post g c x y inside has =
    postable c.args.self.now (record { place = c.claim.inside.place; alone = c.claim.inside.alone }) x y inside c.seat.inside.at c.take_slot-context.new.seat c.see_mark.new.seat c.lay_in.new.seat c.take_slot-context.result c.see_mark.result c.new-ready.result c.args.value
    (slot-out g (goal.at.After-new-ready g c).After-take_slot-context x y inside has) c.see_mark.ensures.carried c.see_mark.ensures.read c.see_mark.ensures.seat c.lay_in.ensures (ready-is g c)

posted-whole : (g : given.Over) (c : goal.After-store_posted g) (x y : ℕ) (inside : x < c.args.self.now.table.slots) → Carries c.seat.inside.at.known (claimed_by (record { place = c.claim.inside.place; alone = c.claim.inside.alone }) x y)
    → (before : ℕ) × (c.store_posted.new.seat ≡ record c.seat.inside.at {
      known = noted kind.Post x before (mark_word CORE_BITS (marked_as mark.Ready (claimed_by (record { place = c.claim.inside.place; alone = c.claim.inside.alone }) x y)))
          (looked x (mark_word CORE_BITS c.see_mark.result) (learned (name_index c.args.self.now.table.slots c.claim.inside.place) x
          (posted c.seat.inside.at.known (claimed_by (record { place = c.claim.inside.place; alone = c.claim.inside.alone }) x y) (g.T.Tagged.tag_of c.args.value))));
    })
posted-whole g c x y inside has =
    let at = goal.at.After-store_posted g c in
    let claim : ClaimView = record { place = c.claim.inside.place; alone = c.claim.inside.alone } in
    let told = c.store_posted.ensures (out_with c.args.self.now claim x y inside) c.args.value (may-post g at.After-new-ready x y inside has) in (
      told.0,
      after c.args.self.now claim x y inside c.seat.inside.at c.take_slot-context.new.seat c.see_mark.new.seat c.lay_in.new.seat c.take_slot-context.result c.see_mark.result c.new-ready.result c.args.value
          (slot-out g at.After-take_slot-context x y inside has) c.see_mark.ensures.carried c.see_mark.ensures.read c.see_mark.ensures.seat c.lay_in.ensures (g.T.Tagged.tag_of c.args.value) told.0 c.store_posted.new.seat (ready-is g at.After-new-ready) told.1,
    )

pub take_slot-context-requires-clause-place : goal.take_slot-context-requires-clause-place
take_slot-context-requires-clause-place g c = (has-claim c.args.self.now c.args.claim _ c.args.seat.now.known _ c.claim.view_is (ap (λ v. v.known) c.seat.view_is) c.requires.claim).placed

pub take_slot-context-requires-clause-carried : goal.take_slot-context-requires-clause-carried
take_slot-context-requires-clause-carried g c =
    let claim : ClaimView = record { place = c.claim.inside.place; alone = c.claim.inside.alone } in
    let has = has-claim c.args.self.now c.args.claim claim c.args.seat.now.known c.seat.inside.at.known c.claim.view_is (ap (λ v. v.known) c.seat.view_is) c.requires.claim in
    (claimed_by claim has.context has.generation, at-home c.args.self.now claim has.context has.generation has.inside c.seat.inside.at.known has.carried)

pub see_mark-requires-clause-own : goal.see_mark-requires-clause-own
see_mark-requires-clause-own g c = (slot-mine g (goal.at.see_mark-requires-clause-own g c).After-take_slot-context).1

pub see_mark-requires-clause-context : goal.see_mark-requires-clause-context
see_mark-requires-clause-context g c = (slot-mine g (goal.at.see_mark-requires-clause-context g c).After-take_slot-context).0

pub lay_in-requires-clause-own : goal.lay_in-requires-clause-own
lay_in-requires-clause-own g c = ap (λ v. v.table) c.see_mark.ensures.seat ∙ (slot-mine g (goal.at.lay_in-requires-clause-own g c).After-take_slot-context).1

pub lay_in-requires-clause-slot : goal.lay_in-requires-clause-slot
lay_in-requires-clause-slot g c =
    subst (λ (v : CallView g.row.T.Denot). HasLast v.slots c.take_slot-context.result None) (sym c.see_mark.ensures.seat) (slot-mine g (goal.at.lay_in-requires-clause-slot g c).After-take_slot-context).2

pub new-ready-requires : goal.new-ready-requires
new-ready-requires g c =
    let has = mine g (goal.at.new-ready-requires g c).After-take_slot-context in
    (omega (arith, has.placed.1, ap (λ v. v.shape.places_per_core) c.self.view_is, c.self.invariant.places_fit), omega (arith, has.placed.0, ap (λ v. v.shape.cores) c.self.view_is, c.self.invariant.cores_fit), omega (arith, c.generation-generation.ensures.within))

pub store_posted-requires-clause-own : goal.store_posted-requires-clause-own
store_posted-requires-clause-own g c =
    ap (λ v. v.table) c.lay_in.ensures ∙ ap (λ v. v.table) c.see_mark.ensures.seat ∙ (slot-mine g (goal.at.store_posted-requires-clause-own g c).After-take_slot-context).1

pub store_posted-requires-clause-postable : goal.store_posted-requires-clause-postable
store_posted-requires-clause-postable g c =
    let at = goal.at.store_posted-requires-clause-postable g c in let is = mine g at.After-take_slot-context in
    (out_with c.args.self.now (record { place = c.claim.inside.place; alone = c.claim.inside.alone }) is.context is.generation is.inside, c.args.value, may-post g at.After-new-ready is.context is.generation is.inside is.carried)

pub overflow_cast-result : goal.overflow_cast-result
overflow_cast-result g c =
    let inside = (slot-mine g (goal.at.overflow_cast-result g c).After-take_slot-context).0 in
    omega (arith, inside, ap (λ v. v.table.slots) c.self.view_is, c.self.invariant.laid_out.few)

pub invariant_of-seat : goal.invariant_of-seat
invariant_of-seat g c =
    let at = goal.at.invariant_of-seat g c in let is = mine g at.After-take_slot-context in
    keeps-less c.seat.inside.at c.store_posted.new.seat c.seat.inside.weight c.seat.inside.out _ c.seat.invariant
    (posted-whole g at.After-store_posted is.context is.generation is.inside is.carried).1
    (claimed_by (record { place = c.claim.inside.place; alone = c.claim.inside.alone }) is.context is.generation) is.carried refl

pub returns-clause-seat : goal.returns-clause-seat
returns-clause-seat g c =
    let at = goal.at.returns-clause-seat g c in let is = mine g at.After-take_slot-context in
    let whole = (posted-whole g at.After-store_posted is.context is.generation is.inside is.carried).1 in
    (ap (λ v. v.table) whole ∙ ap (λ v. v.table) c.seat.view_is, ap (λ v. v.weight) c.seat.view_is)

pub returns-clause-posted : goal.returns-clause-posted
returns-clause-posted g c x y inside carries =
    let at = goal.at.returns-clause-posted g c in
    let claim : ClaimView = record { place = c.claim.inside.place; alone = c.claim.inside.alone } in
    let has = subst (λ (k : Known). Carries k (claimed_by claim x y)) (sym (ap (λ v. v.known) c.seat.view_is)) (subst (λ (v : ClaimView). Carries c.args.seat.now.known (claimed_by v x y)) (sym c.claim.view_is) carries) in
    let out = slot-out g at.After-take_slot-context x y inside has in
    let told = posted-whole g at.After-store_posted x y inside has in
    let same : (record { context = c.take_slot-context.result; generation = c.generation-generation.result }) ≡ (record { context = x; generation = y }) =
    (λ i. record { context = out.0 i; generation = (c.generation-generation.ensures.value ∙ generation c.args.self.now claim x y inside c.seat.inside.at c.take_slot-context.new.seat c.see_mark.new.seat c.lay_in.new.seat c.take_slot-context.result c.see_mark.result c.new-ready.result c.args.value out c.see_mark.ensures.carried c.see_mark.ensures.read c.see_mark.ensures.seat c.lay_in.ensures) i }) in (
      same,
      subst (λ (id : ThreadId). HasPosted c.args.self.now c.args.seat.now.known c.args.claim (g.T.Tagged.tag_of c.args.value) id c.store_posted.new.seat.known) (sym same)
          (subst (λ (v : ClaimView). HasPosted c.args.self.now c.args.seat.now.known v (g.T.Tagged.tag_of c.args.value) (record { context = x; generation = y }) c.store_posted.new.seat.known) c.claim.view_is
          (subst (λ (k : Known). HasPosted c.args.self.now k claim (g.T.Tagged.tag_of c.args.value) (record { context = x; generation = y }) c.store_posted.new.seat.known) (ap (λ v. v.known) c.seat.view_is)
          (record { seen = mark_word CORE_BITS c.see_mark.result; before = told.0; steps = ap (λ v. v.known) told.1 }))),
    )
