-- The end of a thread: the conditions of its steps, and the seat after them.
use Rattle.std.proofs.Common.{◌≡◌, ℕ, ◌+◌, ◌-◌, ◌∙◌, ap, sym, subst, refl, ◌∷◌}
use Rattle.arachne_core.specs.{declared.layout.TheConstants.CORE_BITS, Marked.mark_word}
use Rattle.arachne_rule.specs.declared.view.Kind.TheVariants as kind
use Rattle.arachne_rule.specs.{Changes.{retired, spent_known, claimed_again, marked_free, release_sum}, Layout.Contexts}
use Rattle.arachne_rule.specs.{Plays.Carries, Views.{noted, thread_in}}
use Rattle.arachne_rule.proofs.Carrying.{with-at}
use Rattle.arachne_words.specs.Seats.{CallView, HoldView, ClaimView, HasClaim, HasThread, held_by, claimed_by}
use Rattle.arachne_words.{specs.Calls.released, proofs.Out.without-with}

module _ {T : Type 0} (z : Contexts) (hold : HoldView) (tag : ℕ) (s0 s1 : CallView T) (has : HasThread z s0.known hold tag) (before : ℕ)
    (e1 : s1 ≡ record s0 { known = noted kind.Retire hold.id.context before (mark_word CORE_BITS (marked_free (claimed_again (held_by hold tag)))) (retired s0.known (held_by hold tag)) }) where
  abbrev pub claim_of : ClaimView
  claim_of = record { place = hold.place; alone = hold.alone }

  pub carries : Carries s1.known (claimed_by claim_of hold.id.context (hold.id.generation + 1))
  carries = subst (λ (v : CallView T). Carries v.known (claimed_by claim_of hold.id.context (hold.id.generation + 1))) (sym e1) (with-at (claimed_again (held_by hold tag)) hold.id.context s0.known.carried refl)

  pub claimed : HasClaim z s1.known claim_of
  claimed = record { context = hold.id.context; generation = hold.id.generation + 1; placed = has.placed; inside = has.inside; carried = carries }

  pub after : (i found : ℕ) (s2 : CallView T) → s2 ≡ record s1 { known = released i found (release_sum (claimed_by claim_of hold.id.context (hold.id.generation + 1))) (claimed_by claim_of hold.id.context (hold.id.generation + 1)) s1.known }
      → s2 ≡ record s0 {
        known = noted kind.Release i found (found - release_sum (held_by hold tag))
            (noted kind.Retire hold.id.context before (mark_word CORE_BITS (marked_free (claimed_again (held_by hold tag)))) (spent_known s0.known (held_by hold tag)));
      }
  after i found s2 e2 =
      e2 ∙ ap (λ (v : CallView T). record v { known = released i found (release_sum (claimed_by claim_of hold.id.context (hold.id.generation + 1))) (claimed_by claim_of hold.id.context (hold.id.generation + 1)) v.known }) e1
      ∙ (λ j. record s0 {
        known = record {
          carried = without-with (claimed_again (held_by hold tag)) s0.known.carried j;
          given = s0.known.given;
          ended = thread_in (held_by hold tag) ∷ s0.known.ended;
          records = record { kind = kind.Release; word = i; before = found; after = found - release_sum (held_by hold tag) }
              ∷ record { kind = kind.Retire; word = hold.id.context; before = before; after = mark_word CORE_BITS (marked_free (claimed_again (held_by hold tag))) } ∷ s0.known.records;
        };
      })
