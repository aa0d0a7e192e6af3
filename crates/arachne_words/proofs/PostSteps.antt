-- A post: the conditions of its steps, and the seat after them.
use Rattle.std.proofs.Common.{◌≡◌, ℕ, ◌<◌, ◌∙◌, ap, sym, subst, refl, true, Some, None, ◌∷◌}
use Rattle.atomic_table.specs.Table.{rest}
use Rattle.arachne_core.specs.{declared.layout.TheConstants.CORE_BITS, Marked.{Marked, mark_word, marked_of}}
use Rattle.arachne_core.specs.declared.mark.Mark.TheVariants as mark
use Rattle.arachne_rule.specs.{declared.view.{Carried.Carried, Known.Known}, Changes.{marked_as, posted}}
use Rattle.arachne_rule.specs.{Layout.{Contexts, name_index}, Plays.{Carries, SaysCarried}, Views.{noted, with_context}}
use Rattle.arachne_rule.proofs.Carrying.{with-at}
use Rattle.arachne_rule.specs.declared.view.Kind.TheVariants as kind
use Rattle.arachne_words.specs.{Seats.{CallView, ClaimView, claimed_by}, Steps.{IsAtHome, IsPostable, HasLast}}
use Rattle.arachne_words.{specs.Calls.{looked, learned}, proofs.Out.without-with}

module _ (z : Contexts) (claim : ClaimView) (x g : ℕ) (inside : x < z.table.slots) where
  abbrev pub out_with : Carried
  out_with = record (claimed_by claim x g) { away = true }

  pub at-home : (k : Known) → Carries k (claimed_by claim x g) → IsAtHome z claim.place k (claimed_by claim x g)
  at-home k has = record { inside = inside; carried = has; place = refl; named = refl; home = refl }

  module _ {T : Type 0} (s0 s1 s2 s3 : CallView T) (context : ℕ) (seen ready : Marked) (value : T)
      (e1 : (context ≡ x) × (s1 ≡ record s0 { known = learned (name_index z.table.slots claim.place) context (with_context s0.known out_with); slots = (context, None) ∷ s0.slots }))
      (says : (c : Carried) → c.context ≡ context → Carries s1.known c → SaysCarried CORE_BITS c (mark_word CORE_BITS seen))
      (read : marked_of CORE_BITS (mark_word CORE_BITS seen) ≡ seen)
      (e2 : s2 ≡ record s1 { known = looked context (mark_word CORE_BITS seen) s1.known })
      (e3 : s3 ≡ record s2 { slots = (context, Some value) ∷ rest s2.slots }) where
    has-1 : Carries s1.known out_with
    has-1 = subst (λ (v : CallView T). Carries v.known out_with) (sym e1.1) (with-at out_with x s0.known.carried refl)

    pub generation : seen.generation ≡ g
    generation = sym (ap (λ (m : Marked). m.generation) read) ∙ ap (λ (m : Marked). m.generation) ((says out_with (sym e1.0) has-1).0 refl)

    whole : s3 ≡ record s0 { known = looked context (mark_word CORE_BITS seen) (learned (name_index z.table.slots claim.place) context (with_context s0.known out_with)); slots = (context, Some value) ∷ s0.slots }
    whole = e3 ∙ ap (λ (v : CallView T). record v { slots = (context, Some value) ∷ rest v.slots }) (e2 ∙ ap (λ (v : CallView T). record v { known = looked context (mark_word CORE_BITS seen) v.known }) e1.1)

    pub postable : ready ≡ record { mark = mark.Ready; alone = claim.alone; place = claim.place; generation = seen.generation } → IsPostable z s3 context ready out_with value
    postable is = record {
      context_is = e1.0;
      inside = subst (λ (n : ℕ). n < z.table.slots) (sym e1.0) inside;
      carried = subst (λ (v : CallView T). Carries v.known out_with) (sym whole) (with-at out_with x s0.known.carried refl);
      claimed = refl;
      named = refl;
      slot = subst (λ (v : CallView T). HasLast v.slots x (Some value)) (sym whole) (λ i. (e1.0 i, Some value) ∷ s0.slots);
      ready_is = is ∙ (λ i. record { mark = mark.Ready; alone = claim.alone; place = claim.place; generation = generation i });
    }

    pub after : (tag before : ℕ) (s4 : CallView T) → ready ≡ record { mark = mark.Ready; alone = claim.alone; place = claim.place; generation = seen.generation }
        → s4 ≡ record s3 { known = noted kind.Post context before (mark_word CORE_BITS ready) (posted s3.known out_with tag); slots = rest s3.slots }
        → s4 ≡ record s0 {
          known = noted kind.Post x before (mark_word CORE_BITS (marked_as mark.Ready (claimed_by claim x g)))
              (looked x (mark_word CORE_BITS seen) (learned (name_index z.table.slots claim.place) x (posted s0.known (claimed_by claim x g) tag)));
        }
    after tag before s4 is e4 =
        e4 ∙ ap (λ (v : CallView T). record v { known = noted kind.Post context before (mark_word CORE_BITS ready) (posted v.known out_with tag); slots = rest v.slots }) whole
        ∙ (λ i. record s0 {
          known = record {
            carried = without-with out_with s0.known.carried i;
            given = (record { context = x; generation = g }, tag) ∷ s0.known.given;
            ended = s0.known.ended;
            records = record { kind = kind.Post; word = e1.0 i; before = before; after = mark_word CORE_BITS ((is ∙ (λ j. record { mark = mark.Ready; alone = claim.alone; place = claim.place; generation = generation j })) i) }
                ∷ record { kind = kind.Look; word = e1.0 i; before = mark_word CORE_BITS seen; after = mark_word CORE_BITS seen }
                ∷ record { kind = kind.Learn; word = name_index z.table.slots claim.place; before = e1.0 i; after = e1.0 i } ∷ s0.known.records;
          };
        })
