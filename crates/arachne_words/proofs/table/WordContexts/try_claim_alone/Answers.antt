-- One try to claim a whole core, from the word 0. The idea: the word is the core's (`there`), so the rule allows the
-- exchange (`alone-allowed`); won or lost, what the exchange says is then said of the seat's view. The word of such a
-- core is `sum_of true 0`.
use Rattle.std.proofs.Common.{◌≡◌, ℕ, ◌<◌, ◌∙◌, ap, sym, subst, refl, true}
use Rattle.arachne_core.specs.declared.layout.TheConstants.{CORE_BITS}
use Rattle.arachne_rule.specs.declared.view.Kind.TheVariants as kind
use Rattle.arachne_rule.specs.{declared.view.Known.Known, Layout.{Contexts, occ_index}, Changes.alone_context}
use Rattle.arachne_rule.{specs.Views.{noted, with_context, carried_at}, proofs.ClaimSteps.alone-allowed}
use Rattle.arachne_words.proofs.{Inside.core-in, Told.{changed, live-told, view-told}}
use Rattle.arachne_words.{specs.Calls.sum_of, proofs.table.WordContexts.try_claim_alone.Goals.After-core_word-word}
use Rattle.arachne_words.proofs.table.WordContexts.try_claim_alone.Given as given
use Rattle.arachne_words.proofs.table.WordContexts.try_claim_alone.Goals as goal

-- the word of the core, by the table's fields
there : (g : given.Over) (c : goal.After-core_word-word g) → c.core_word-word.result ≡ occ_index c.self.inside.table.shared.table_id.slots c.args.core
there g c = c.core_word-word.ensures ∙ ap (λ (v : Contexts). occ_index v.table.slots c.args.core) (sym c.self.view_is)

pub compare_exchange-found-requires : goal.compare_exchange-found-requires
compare_exchange-found-requires g c =
    let at = (goal.at.compare_exchange-found-requires g c).After-core_word-word in
    let core_in = subst (λ (v : Contexts). c.args.core < v.shape.cores) (sym c.self.view_is) c.requires.core in (
      ap (λ v. v.table) c.seat.view_is ∙ c.requires.own ∙ sym (ap (λ v. v.table) c.self.view_is),
      core-in _ _ _ c.self.invariant _ _ core_in (there g at),
      alone-allowed g.T.Tagged.tag_of CORE_BITS c.self.inside.table.shared.key c.self.inside.table.shared.table_id.slots c.seat.inside.seat.id c.seat.inside.seat.me c.args.core _ _ _ c.self.invariant.laid_out.slots c.seat.invariant (there g at) refl refl core_in c.self.invariant.laid_out.few.1,
    )

pub invariant_of-seat : goal.invariant_of-seat
invariant_of-seat g c =
    let at = (goal.at.invariant_of-seat g c).After-core_word-word in
    live-told _ _ _ _ ((c.compare_exchange-found.ensures.2 c.args.core (there g at)).1 c.if-found-ne0.true)

pub returns-then-found-ne0-clause-lost : goal.returns-then-found-ne0-clause-lost
returns-then-found-ne0-clause-lost g c =
    let at = (goal.at.returns-then-found-ne0-clause-lost g c).After-core_word-word in
    let told = (c.compare_exchange-found.ensures.2 c.args.core (there g at)).1 c.if-found-ne0.true in (
      c.if-found-ne0.true,
      view-told c.seat.inside.seat.table_id c.compare_exchange-found.new.seat.table_id c.seat.inside.seat.me c.compare_exchange-found.new.seat.me c.args.seat.now (noted kind.Alone c.core_word-word.result c.compare_exchange-found.result c.compare_exchange-found.result) (λ l. l) c.seat.view_is c.compare_exchange-found.ensures.0 told
          ∙ ap (λ (i : ℕ). changed (noted kind.Alone i c.compare_exchange-found.result c.compare_exchange-found.result) (λ l. l) c.args.seat.now) c.core_word-word.ensures,
    )

pub invariant_of-seat-2 : goal.invariant_of-seat-2
invariant_of-seat-2 g c =
    let at = (goal.at.invariant_of-seat-2 g c).After-core_word-word in
    live-told _ _ _ _ ((c.compare_exchange-found.ensures.2 c.args.core (there g at)).0 c.if-found-ne0.false).4

pub returns-clause-won : goal.returns-clause-won
returns-clause-won g c =
    let at = (goal.at.returns-clause-won g c).After-core_word-word in
    let told = (c.compare_exchange-found.ensures.2 c.args.core (there g at)).0 c.if-found-ne0.false in
    let a = alone_context told.0 c.args.core told.1 in (
      told.0,
      told.1,
      subst (λ (v : Contexts). told.0 < v.table.slots) c.self.view_is told.2,
      ap (λ (k : Known). carried_at told.0 k.carried) (sym (ap (λ v. v.known) c.seat.view_is)) ∙ told.3,
      view-told c.seat.inside.seat.table_id c.compare_exchange-found.new.seat.table_id c.seat.inside.seat.me c.compare_exchange-found.new.seat.me c.args.seat.now (λ k. noted kind.Alone c.core_word-word.result c.compare_exchange-found.result (sum_of true 0) (with_context k a)) (λ l. l) c.seat.view_is c.compare_exchange-found.ensures.0 told.4
          ∙ (λ i. changed (λ k. noted kind.Alone (c.core_word-word.ensures i) (c.if-found-ne0.false i) (sum_of true 0) (with_context k a)) (λ l. l) c.args.seat.now),
    )
