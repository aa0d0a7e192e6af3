-- How a held thread is put back: the conditions of the steps, and the seat after them.
use Rattle.std.proofs.Common.{◌≡◌, ℕ, ◌<◌, ◌∙◌, ap, sym, subst, refl, true, Some, None, ◌∷◌}
use Rattle.atomic_table.specs.Table.{rest}
use Rattle.arachne_core.specs.{declared.{layout.TheConstants.CORE_BITS, state.Rest.Rest}, Marked.{Marked, mark_word}}
use Rattle.arachne_core.specs.declared.mark.Mark.TheVariants as mark
use Rattle.arachne_core.specs.declared.state.Rest.TheVariants as rested_as
use Rattle.arachne_rule.specs.{declared.view.{Carried.Carried, Known.Known}, Layout.{Contexts, name_index}}
use Rattle.arachne_rule.specs.{Plays.Carries, Views.{noted, with_context, without_context}}
use Rattle.arachne_rule.proofs.Carrying.{with-at}
use Rattle.arachne_rule.specs.declared.view.Kind.TheVariants as kind
use Rattle.arachne_words.specs.{Seats.{CallView, HoldView, HasThread, held_by, marked_by}, Calls.learned}
use Rattle.arachne_words.{specs.Steps.{IsAtHome, IsRestable, HasLast}, proofs.Out.without-with}

pub blocked-else : (r : Rest) → (r ≡ rested_as.Ready → ⊥) → r ≡ rested_as.Blocked
blocked-else rested_as.Ready n = absurd (n refl)
blocked-else rested_as.Blocked n = refl

module _ {T : Type 0} (tag_of : T → ℕ) (z : Contexts) (h : HoldView) (value : T) where
  abbrev pub out_with : Carried
  out_with = record (held_by h (tag_of value)) { away = true }

  pub at-home : (k : Known) → HasThread z k h (tag_of value) → IsAtHome z h.place k (held_by h (tag_of value))
  at-home k has = record { inside = has.inside; carried = has.carried; place = refl; named = refl; home = refl }

  module _ (s0 s1 s2 : CallView T) (context : ℕ) (has : HasThread z s0.known h (tag_of value))
      (e1 : (context ≡ h.id.context) × (s1 ≡ record s0 { known = learned (name_index z.table.slots h.place) context (with_context s0.known out_with); slots = (context, None) ∷ s0.slots }))
      (e2 : s2 ≡ record s1 { slots = (context, Some value) ∷ rest s1.slots }) where
    laid : s2 ≡ record s0 { known = learned (name_index z.table.slots h.place) context (with_context s0.known out_with); slots = (context, Some value) ∷ s0.slots }
    laid = e2 ∙ ap (λ (v : CallView T). record v { slots = (context, Some value) ∷ rest v.slots }) e1.1

    pub restable : IsRestable tag_of z s2 context out_with value
    restable = record {
      context_is = e1.0;
      inside = subst (λ (n : ℕ). n < z.table.slots) (sym e1.0) has.inside;
      carried = subst (λ (v : CallView T). Carries v.known out_with) (sym laid) (with-at out_with h.id.context s0.known.carried refl);
      held = refl;
      tagged = refl;
      shown = refl;
      slot = subst (λ (v : CallView T). HasLast v.slots h.id.context (Some value)) (sym laid) (λ i. (e1.0 i, Some value) ∷ s0.slots);
    }

    pub after-ready : (s3 : CallView T) (before : ℕ) (ready : Marked) → ready ≡ marked_by mark.Ready h
        → s3 ≡ record s2 { known = noted kind.RestReady context before (mark_word CORE_BITS ready) (without_context s2.known out_with); slots = rest s2.slots }
        → s3 ≡ record s0 { known = noted kind.RestReady h.id.context before (mark_word CORE_BITS (marked_by mark.Ready h)) (learned (name_index z.table.slots h.place) h.id.context (without_context s0.known (held_by h (tag_of value)))) }
    after-ready s3 before ready is e3 =
        e3 ∙ ap (λ (v : CallView T). record v { known = noted kind.RestReady context before (mark_word CORE_BITS ready) (without_context v.known out_with); slots = rest v.slots }) laid
        ∙ (λ i. record s0 {
          known = record {
            carried = without-with out_with s0.known.carried i;
            given = s0.known.given;
            ended = s0.known.ended;
            records = record { kind = kind.RestReady; word = e1.0 i; before = before; after = mark_word CORE_BITS (is i) }
                ∷ record { kind = kind.Learn; word = name_index z.table.slots h.place; before = e1.0 i; after = e1.0 i } ∷ s0.known.records;
          };
        })

    pub after-blocked : (s3 : CallView T) (held : Marked) → held ≡ marked_by mark.Held h
        → s3 ≡ record s2 { known = noted kind.RestBlocked context (mark_word CORE_BITS held) (mark_word CORE_BITS (record held { mark = mark.Blocked })) (without_context s2.known out_with); slots = rest s2.slots }
        → s3 ≡ record s0 { known = noted kind.RestBlocked h.id.context (mark_word CORE_BITS (marked_by mark.Held h)) (mark_word CORE_BITS (marked_by mark.Blocked h)) (learned (name_index z.table.slots h.place) h.id.context (without_context s0.known (held_by h (tag_of value)))) }
    after-blocked s3 held is e3 =
        e3 ∙ ap (λ (v : CallView T). record v { known = noted kind.RestBlocked context (mark_word CORE_BITS held) (mark_word CORE_BITS (record held { mark = mark.Blocked })) (without_context v.known out_with); slots = rest v.slots }) laid
        ∙ (λ i. record s0 {
          known = record {
            carried = without-with out_with s0.known.carried i;
            given = s0.known.given;
            ended = s0.known.ended;
            records = record { kind = kind.RestBlocked; word = e1.0 i; before = mark_word CORE_BITS (is i); after = mark_word CORE_BITS (record (is i) { mark = mark.Blocked }) }
                ∷ record { kind = kind.Learn; word = name_index z.table.slots h.place; before = e1.0 i; after = e1.0 i } ∷ s0.known.records;
          };
        })

    module _ (s3 : CallView T) (found : ℕ) (e3 : s3 ≡ record s2 { known = noted kind.RestBlocked context found found s2.known }) where
      pub restable-again : IsRestable tag_of z s3 context out_with value
      restable-again = assumption (restable.inside, subst (λ (v : CallView T). Carries v.known out_with) (sym e3) restable.carried, subst (λ (v : CallView T). HasLast v.slots h.id.context (Some value)) (sym e3) restable.slot)

      pub after-lost : (s4 : CallView T) (before : ℕ) (ready : Marked) → ready ≡ marked_by mark.Ready h
          → s4 ≡ record s3 { known = noted kind.RestReady context before (mark_word CORE_BITS ready) (without_context s3.known out_with); slots = rest s3.slots }
          → s4 ≡ record s0 {
            known = noted kind.RestReady h.id.context before (mark_word CORE_BITS (marked_by mark.Ready h))
                (noted kind.RestBlocked h.id.context found found (learned (name_index z.table.slots h.place) h.id.context (without_context s0.known (held_by h (tag_of value)))));
          }
      after-lost s4 before ready is e4 =
          e4 ∙ ap (λ (v : CallView T). record v { known = noted kind.RestReady context before (mark_word CORE_BITS ready) (without_context v.known out_with); slots = rest v.slots })
          (e3 ∙ ap (λ (v : CallView T). record v { known = noted kind.RestBlocked context found found v.known }) laid)
          ∙ (λ i. record s0 {
            known = record {
              carried = without-with out_with s0.known.carried i;
              given = s0.known.given;
              ended = s0.known.ended;
              records = record { kind = kind.RestReady; word = e1.0 i; before = before; after = mark_word CORE_BITS (is i) }
                  ∷ record { kind = kind.RestBlocked; word = e1.0 i; before = found; after = found }
                  ∷ record { kind = kind.Learn; word = name_index z.table.slots h.place; before = e1.0 i; after = e1.0 i } ∷ s0.known.records;
            };
          })
