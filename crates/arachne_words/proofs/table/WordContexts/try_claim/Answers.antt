-- One try to claim an index. The idea: the new word is the old one and the number of the index (`sum`), which is the
-- rule's condition for a claim (`claim-allowed`); what the exchange says, won or lost, is then said of the seat's view.
-- A change of what the words mean changes `sum` and `index_sum`.
use Rattle.std.proofs.Common.{◌≡◌, ℕ, ◌+◌, ◌<◌, ◌∙◌, ap, sym, subst, arith, false, get_or}
use Rattle.arachne_core.specs.{Occupancy.Occupancy, declared.layout.TheConstants.CORE_BITS}
use Rattle.arachne_rule.specs.declared.view.Kind.TheVariants as kind
use Rattle.arachne_rule.specs.{declared.view.Known.Known, Changes.{index_sum, claimed_context}}
use Rattle.arachne_rule.specs.{Layout.{Contexts, occ_index}, Views.{noted, with_context, carried_at}}
use Rattle.arachne_rule.proofs.ClaimSteps.{claim-allowed, with-bit}
use Rattle.arachne_words.proofs.{Inside.core-in, Told.{changed, live-told, view-told}}
use Rattle.arachne_words.{proofs.table.WordContexts.try_claim.Goals.After-core_word-word, specs.Calls.lost_claim}
use Rattle.arachne_words.proofs.table.WordContexts.try_claim.Given as given
use Rattle.arachne_words.proofs.table.WordContexts.try_claim.Goals as goal

-- the word of the core, by the table's fields
there : (g : given.Over) (c : goal.After-core_word-word g) → c.core_word-word.result ≡ occ_index c.self.inside.table.shared.table_id.slots c.args.place.core
there g c = c.core_word-word.ensures ∙ ap (λ (v : Contexts). occ_index v.table.slots c.args.place.core) (sym c.self.view_is)

index-in : (g : given.Over) (c : goal.After-core_word-word g) → c.args.place.index < c.self.inside.table.shared.key.places_per_core
index-in g c = subst (λ (v : Contexts). c.args.place.index < v.shape.places_per_core) (sym c.self.view_is) c.requires.index.inside

sum : (g : given.Over) (c : goal.After-core_word-word g) → c.word-new.result ≡ c.word-old.result + index_sum c.args.place.index
sum g c =
    let inside = index-in g c in
    with-bit c.word-old.result c.word-new.result c.args.place.index c.args.seen c.with_bit.result c.word-old.ensures.packed c.word-old.ensures.read.1 c.with_bit.ensures c.word-new.ensures.packed
    (omega (arith, inside, c.self.invariant.places_fit)) c.requires.index.free

pub compare_exchange-found-requires : goal.compare_exchange-found-requires
compare_exchange-found-requires g c =
    let at = (goal.at.compare_exchange-found-requires g c).After-core_word-word in
    let core_in = subst (λ (v : Contexts). c.args.place.core < v.shape.cores) (sym c.self.view_is) c.requires.core in
    let read = c.word-old.ensures.read.1 in (
      ap (λ v. v.table) c.seat.view_is ∙ c.requires.own ∙ sym (ap (λ v. v.table) c.self.view_is),
      core-in _ _ _ c.self.invariant _ _ core_in (there g at),
      claim-allowed g.T.Tagged.tag_of CORE_BITS c.self.inside.table.shared.key c.self.inside.table.shared.table_id.slots c.seat.inside.seat.id c.seat.inside.seat.me c.args.place _ _ _
          c.self.invariant.laid_out.slots c.seat.invariant (there g at) (sum g at) core_in (index-in g at)
          (ap (λ (o : Occupancy). get_or o.occupied c.args.place.index false) read ∙ c.requires.index.free)
          (ap (λ (o : Occupancy). o.closed) read ∙ c.requires.opened)
          (ap (λ (o : Occupancy). o.exclusive) read ∙ c.requires.index.shared),
    )

pub invariant_of-seat : goal.invariant_of-seat
invariant_of-seat g c =
    let at = (goal.at.invariant_of-seat g c).After-core_word-word in
    live-told _ _ _ _ ((c.compare_exchange-found.ensures.2 c.args.place (there g at) (sum g at)).1 c.if-found-old.true)

pub returns-then-found-old-clause-lost : goal.returns-then-found-old-clause-lost
returns-then-found-old-clause-lost g c =
    let at = (goal.at.returns-then-found-old-clause-lost g c).After-core_word-word in
    let told = (c.compare_exchange-found.ensures.2 c.args.place (there g at) (sum g at)).1 c.if-found-old.true in (
      (λ e. c.if-found-old.true (e ∙ sym c.word-old.ensures.packed)),
      view-told c.seat.inside.seat.table_id c.compare_exchange-found.new.seat.table_id c.seat.inside.seat.me c.compare_exchange-found.new.seat.me c.args.seat.now
          (lost_claim c.core_word-word.result c.compare_exchange-found.result) (λ l. l) c.seat.view_is c.compare_exchange-found.ensures.0 told
          ∙ ap (λ (i : ℕ). changed (lost_claim i c.compare_exchange-found.result) (λ l. l) c.args.seat.now) c.core_word-word.ensures,
    )

pub invariant_of-seat-2 : goal.invariant_of-seat-2
invariant_of-seat-2 g c =
    let at = (goal.at.invariant_of-seat-2 g c).After-core_word-word in
    live-told _ _ _ _ ((c.compare_exchange-found.ensures.2 c.args.place (there g at) (sum g at)).0 c.if-found-old.false).4

pub returns-clause-won : goal.returns-clause-won
returns-clause-won g c =
    let at = (goal.at.returns-clause-won g c).After-core_word-word in
    let told = (c.compare_exchange-found.ensures.2 c.args.place (there g at) (sum g at)).0 c.if-found-old.false in
    let old = c.if-found-old.false ∙ c.word-old.ensures.packed in
    let new = sum g at ∙ ap (λ (n : ℕ). n + index_sum c.args.place.index) c.word-old.ensures.packed in
    let a = claimed_context told.0 c.args.place told.1 in (
      told.0,
      told.1,
      subst (λ (v : Contexts). told.0 < v.table.slots) c.self.view_is told.2,
      ap (λ (k : Known). carried_at told.0 k.carried) (sym (ap (λ v. v.known) c.seat.view_is)) ∙ told.3,
      view-told c.seat.inside.seat.table_id c.compare_exchange-found.new.seat.table_id c.seat.inside.seat.me c.compare_exchange-found.new.seat.me c.args.seat.now
          (λ k. noted kind.Claim c.core_word-word.result c.compare_exchange-found.result c.word-new.result (with_context k a)) (λ l. l) c.seat.view_is c.compare_exchange-found.ensures.0 told.4
          ∙ (λ i. changed (λ k. noted kind.Claim (c.core_word-word.ensures i) (old i) (new i) (with_context k a)) (λ l. l) c.args.seat.now),
    )
