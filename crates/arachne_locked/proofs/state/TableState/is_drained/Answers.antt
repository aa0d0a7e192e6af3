use Rattle.std.proofs.{Common.{ℕ, ◌<◌, ◌^◌, inl, inr, sym, subst, ◌∙◌}, lemmas.Bool.{cases_lt, eq-eqb, eqb-true}}
use Rattle.arachne_core.specs.{declared.layout.TheConstants.MASK_BITS, ContextTable.world_of}
use Rattle.arachne_locked.proofs.Words.{none_masked, all_free}
use Rattle.arachne_locked.proofs.state.TableState.is_drained.Goals as goal

pub returns-then-is_closed : goal.returns-then-is_closed
returns-then-is_closed g c =
    let o = c.in-Some.occ in (
      λ t. (
        c.in-Some.ensures.some.0,
        sym c.in-Some.ensures.some.1.closed ∙ sym c.is_closed.ensures ∙ c.if-is_closed.true,
        (λ i h. sym (c.in-Some.ensures.some.1.occupied i) ∙ none_masked o.occupied (sym c.mask.ensures.bits ∙ eqb-true c.mask.result 0 t) i),
      ),
      λ d. eq-eqb c.mask.result 0 (c.mask.ensures.bits ∙ all_free MASK_BITS o.occupied (subst (λ (m : ℕ). m < 2 ^ MASK_BITS) c.mask.ensures.bits c.mask.ensures.within) (λ i _. elim (cases_lt i (world_of c.args.self.now.table).slots) [
        | inl h ↦ c.in-Some.ensures.some.1.occupied i ∙ d.2 i h
        | inr h ↦ c.in-Some.ensures.beyond i h
      ])),
    )
