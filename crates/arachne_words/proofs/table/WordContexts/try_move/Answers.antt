use Rattle.std.proofs.Common.{◌≡◌, ◌<◌, ◌∙◌, ap, sym, subst, arith}
use Rattle.arachne_core.specs.declared.{layout.TheConstants.CORE_BITS, place.Place.Place}
use Rattle.arachne_core.specs.Marked.{Marked, mark_word, marked_of}
use Rattle.arachne_rule.specs.declared.view.Kind.TheVariants as kind
use Rattle.arachne_rule.specs.{declared.view.Known.Known, Layout.Contexts, Plays.Carries, Views.{noted, with_context}}
use Rattle.arachne_rule.{specs.Changes.left_context, proofs.MoveSteps.move-allowed}
use Rattle.arachne_words.proofs.{Inside.mark-in, Told.{changed, live-told, view-told}}
use Rattle.arachne_words.proofs.table.WordContexts.try_move.Goals as goal

pub with_place-requires : goal.with_place-requires
with_place-requires g c = record {
  index = omega (arith, c.requires.place.1, ap (λ v. v.shape.places_per_core) c.self.view_is, c.self.invariant.places_fit);
  core = omega (arith, c.requires.place.0, ap (λ v. v.shape.cores) c.self.view_is, c.self.invariant.cores_fit);
}

pub compare_exchange-found-requires : goal.compare_exchange-found-requires
compare_exchange-found-requires g c =
    let a = c.requires.claimed.0 in
    let has = c.requires.claimed.1 in
    let inside = subst (λ (v : Contexts). c.args.context < v.table.slots) (sym c.self.view_is) c.requires.context in
    let apart = λ (e : c.args.seen.place.core ≡ a.place.core). c.requires.rests.2 (e ∙ ap (λ (p : Place). p.core) c.requires.claimed.2) in (
      ap (λ v. v.table) c.seat.view_is ∙ c.requires.own ∙ sym (ap (λ v. v.table) c.self.view_is),
      mark-in _ _ _ c.self.invariant _ inside,
      move-allowed g.T.Tagged.tag_of CORE_BITS c.self.inside.table.shared.key c.self.inside.table.shared.table_id.slots c.seat.inside.seat.id c.seat.inside.seat.me a _ _ _ c.args.seen c.self.invariant.laid_out.slots c.seat.invariant inside (subst (λ (v : Contexts). a.context < v.table.slots) (sym c.self.view_is) has.inside) c.word-old.ensures.read.1 c.requires.rests.0 c.requires.rests.1
          (subst (λ (k : Known). Carries k a) (sym (ap (λ v. v.known) c.seat.view_is)) has.carried) has.claimed c.requires.claimed.3 c.requires.claimed.4 apart
          (c.word-new.ensures.packed ∙ ap (mark_word CORE_BITS) (c.with_place.ensures ∙ ap (λ (p : Place). record c.args.seen { place = p }) (sym c.requires.claimed.2))),
    )

pub invariant_of-seat : goal.invariant_of-seat
invariant_of-seat g c =
    let a = c.requires.claimed.0 in
    let has = c.requires.claimed.1 in
    live-told _ _ _ _ ((c.compare_exchange-found.ensures.2 a (subst (λ (v : Contexts). a.context < v.table.slots) (sym c.self.view_is) has.inside) (subst (λ (k : Known). Carries k a) (sym (ap (λ v. v.known) c.seat.view_is)) has.carried) (ap (λ (m : Marked). m.place) (c.word-new.ensures.read.1 ∙ c.with_place.ensures) ∙ sym c.requires.claimed.2)).1 c.if-found-old.true)

pub returns-then-found-old-clause-lost : goal.returns-then-found-old-clause-lost
returns-then-found-old-clause-lost g c =
    let a = c.requires.claimed.0 in
    let has = c.requires.claimed.1 in
    let told = (c.compare_exchange-found.ensures.2 a (subst (λ (v : Contexts). a.context < v.table.slots) (sym c.self.view_is) has.inside) (subst (λ (k : Known). Carries k a) (sym (ap (λ v. v.known) c.seat.view_is)) has.carried) (ap (λ (m : Marked). m.place) (c.word-new.ensures.read.1 ∙ c.with_place.ensures) ∙ sym c.requires.claimed.2)).1 c.if-found-old.true in (
      (λ e. c.if-found-old.true (e ∙ sym c.word-old.ensures.packed)),
      view-told c.seat.inside.seat.table_id c.compare_exchange-found.new.seat.table_id c.seat.inside.seat.me c.compare_exchange-found.new.seat.me c.args.seat.now (noted kind.Move c.args.context c.compare_exchange-found.result c.compare_exchange-found.result) (λ l. l) c.seat.view_is c.compare_exchange-found.ensures.0 told,
    )

pub invariant_of-seat-2 : goal.invariant_of-seat-2
invariant_of-seat-2 g c =
    let a = c.requires.claimed.0 in
    let has = c.requires.claimed.1 in
    live-told _ _ _ _ ((c.compare_exchange-found.ensures.2 a (subst (λ (v : Contexts). a.context < v.table.slots) (sym c.self.view_is) has.inside) (subst (λ (k : Known). Carries k a) (sym (ap (λ v. v.known) c.seat.view_is)) has.carried) (ap (λ (m : Marked). m.place) (c.word-new.ensures.read.1 ∙ c.with_place.ensures) ∙ sym c.requires.claimed.2)).0 c.if-found-old.false)

pub returns-clause-won : goal.returns-clause-won
returns-clause-won g c a has at =
    let told = (c.compare_exchange-found.ensures.2 a (subst (λ (v : Contexts). a.context < v.table.slots) (sym c.self.view_is) has.inside) (subst (λ (k : Known). Carries k a) (sym (ap (λ v. v.known) c.seat.view_is)) has.carried) (ap (λ (m : Marked). m.place) (c.word-new.ensures.read.1 ∙ c.with_place.ensures) ∙ sym at)).0 c.if-found-old.false in
    let old = c.if-found-old.false ∙ c.word-old.ensures.packed in
    let new = c.word-new.ensures.packed ∙ ap (mark_word CORE_BITS) c.with_place.ensures in
    let was = ap (λ (m : Marked). m.place) c.word-old.ensures.read.1 in
    view-told c.seat.inside.seat.table_id c.compare_exchange-found.new.seat.table_id c.seat.inside.seat.me c.compare_exchange-found.new.seat.me c.args.seat.now (λ k. noted kind.Move c.args.context c.compare_exchange-found.result c.word-new.result (with_context k (left_context a (marked_of CORE_BITS c.word-old.result).place))) (λ l. l) c.seat.view_is c.compare_exchange-found.ensures.0 told
    ∙ (λ i. changed (λ k. noted kind.Move c.args.context (old i) (new i) (with_context k (left_context a (was i)))) (λ l. l) c.args.seat.now)
