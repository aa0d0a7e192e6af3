-- A place is given back. The idea: the context is the claim's, at the word of its core (`there`), so the rule allows
-- the subtraction (`release-allowed`), and what the step says is then said of the seat's view (`view-told`). Another
-- way to free a place changes `release_sum`, `Releases` in `Plays` and that lemma.
use Rattle.std.proofs.Common.{◌<◌, ◌∙◌, ap, sym, subst, refl, arith, Bool}
use Rattle.arachne_core.specs.declared.{layout.TheConstants.CORE_BITS, place.Place.Place}
use Rattle.arachne_rule.specs.{declared.view.Known.Known, Layout.{Contexts, occ_index}, Plays.Carries}
use Rattle.arachne_rule.proofs.ClaimSteps.{release-allowed}
use Rattle.arachne_words.specs.{Seats.{ClaimView, claimed_by}, Calls.released}
use Rattle.arachne_words.proofs.{Inside.core-in, Told.{changed, live-told, view-told}}
use Rattle.arachne_words.proofs.table.WordContexts.release.Goals as goal

abbrev claim_of : Place → Bool → ClaimView
claim_of p b = record { place = p; alone = b }

pub claim_sum-less-requires : goal.claim_sum-less-requires
claim_sum-less-requires g c =
    let index_in = subst (λ (v : Contexts). c.args.place.index < v.shape.places_per_core) (sym c.self.view_is) c.requires.claim.placed.1 in
    omega (arith, index_in, c.self.invariant.places_fit)

pub fetch_sub-requires : goal.fetch_sub-requires
fetch_sub-requires g c =
    let has = c.requires.claim in
    let a = claimed_by (claim_of c.args.place c.args.alone) has.context has.generation in
    let inside = subst (λ (v : Contexts). has.context < v.table.slots) (sym c.self.view_is) has.inside in
    let core_in = subst (λ (v : Contexts). c.args.place.core < v.shape.cores) (sym c.self.view_is) has.placed.0 in
    let there = c.core_word-word.ensures ∙ ap (λ (v : Contexts). occ_index v.table.slots c.args.place.core) (sym c.self.view_is) in (
      ap (λ v. v.table) c.seat.view_is ∙ c.requires.own ∙ sym (ap (λ v. v.table) c.self.view_is),
      core-in _ _ _ c.self.invariant _ _ core_in there,
      release-allowed g.T.Tagged.tag_of CORE_BITS c.self.inside.table.shared.key c.self.inside.table.shared.table_id.slots c.seat.inside.seat.id c.seat.inside.seat.me a _ _ c.self.invariant.laid_out.slots c.seat.invariant there inside (subst (λ (k : Known). Carries k a) (sym (ap (λ v. v.known) c.seat.view_is)) has.carried) refl refl refl c.claim_sum-less.ensures,
    )

pub invariant_of-seat : goal.invariant_of-seat
invariant_of-seat g c =
    let has = c.requires.claim in
    let a = claimed_by (claim_of c.args.place c.args.alone) has.context has.generation in
    let inside = subst (λ (v : Contexts). has.context < v.table.slots) (sym c.self.view_is) has.inside in
    let there = c.core_word-word.ensures ∙ ap (λ (v : Contexts). occ_index v.table.slots c.args.place.core) (sym c.self.view_is) in
    live-told _ _ _ _ (c.fetch_sub.ensures.2 a inside (subst (λ (k : Known). Carries k a) (sym (ap (λ v. v.known) c.seat.view_is)) has.carried) there c.claim_sum-less.ensures)

pub returns : goal.returns
returns g c x y x_in has =
    let a = claimed_by (claim_of c.args.place c.args.alone) x y in
    let inside = subst (λ (v : Contexts). x < v.table.slots) (sym c.self.view_is) x_in in
    let there = c.core_word-word.ensures ∙ ap (λ (v : Contexts). occ_index v.table.slots c.args.place.core) (sym c.self.view_is) in
    let told = c.fetch_sub.ensures.2 a inside (subst (λ (k : Known). Carries k a) (sym (ap (λ v. v.known) c.seat.view_is)) has) there c.claim_sum-less.ensures in (
      c.fetch_sub.result,
      view-told c.seat.inside.seat.table_id c.fetch_sub.new.seat.table_id c.seat.inside.seat.me c.fetch_sub.new.seat.me c.args.seat.now (released c.core_word-word.result c.fetch_sub.result c.claim_sum-less.result a) (λ l. l) c.seat.view_is c.fetch_sub.ensures.0 told
          ∙ (λ i. changed (released (c.core_word-word.ensures i) c.fetch_sub.result (c.claim_sum-less.ensures i) a) (λ l. l) c.args.seat.now),
    )
