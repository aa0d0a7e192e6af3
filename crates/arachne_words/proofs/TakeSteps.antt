-- A take: the conditions of its steps, and the seat after them.
use Rattle.std.proofs.Common.{◌≡◌, ℕ, ◌<◌, ◌∙◌, ap, sym, subst, refl, true, false, Some, None, Option, List, [], ◌∷◌}
use Rattle.atomic_table.specs.Table.{rest}
use Rattle.arachne_core.specs.{declared.{layout.TheConstants.CORE_BITS, place.Place.Place}, Marked.{Marked, mark_word}}
use Rattle.arachne_core.specs.declared.mark.Mark.TheVariants as mark
use Rattle.arachne_rule.specs.{declared.view.Carried.Carried, Changes.taken_context, Layout.{Contexts, name_index}}
use Rattle.arachne_rule.specs.{Plays.Carries, Views.{noted, with_context, carried_at}}
use Rattle.arachne_rule.proofs.Carrying.{with-at}
use Rattle.arachne_rule.specs.declared.view.Kind.TheVariants as kind
use Rattle.arachne_words.specs.{Seats.{CallView, HoldView, held_by, marked_by}, Steps.{HasLast, IsTaken}}
use Rattle.arachne_words.{specs.Calls.{looked, learned}, proofs.Out.without-with}

abbrev value_in : {T : Type 0} → T → Option T → T
value_in d None = d
value_in d (Some v) = v

abbrev last_value : {T : Type 0} → T → List (ℕ × Option T) → T
last_value d [] = d
last_value d (s ∷ ss) = value_in d s.1

-- the slot that was taken last has one value
pub same-value : {T : Type 0} {x : ℕ} {u v : T} {l r : List (ℕ × Option T)} → l ≡ (x, Some v) ∷ r → HasLast l x (Some u) → u ≡ v
same-value {u = u} e h = ap (last_value u) (sym h ∙ e)

module _ (z : Contexts) (p : Place) (x : ℕ) (inside : x < z.table.slots) (seen : Marked) (tag : ℕ) where
  abbrev pub first : Carried
  first = taken_context x seen tag

  abbrev pub at_last : Carried
  at_last = record first { named = true; away = false }

  abbrev pub hold_of : HoldView
  hold_of = record { id = record { context = x; generation = seen.generation }; place = p; alone = seen.alone }

  module _ {T : Type 0} (s0 s1 s2 s3 s4 : CallView T) (value : T)
      (ready : seen.mark ≡ mark.Ready) (at : seen.place ≡ p)
      (e1 : s1 ≡ record s0 { known = learned (name_index z.table.slots p) x s0.known })
      (e2 : s2 ≡ record s1 { known = looked x (mark_word CORE_BITS seen) s1.known })
      (fresh : carried_at x s2.known.carried ≡ [])
      (e3 : s3 ≡ record s2 {
        known = noted kind.Take x (mark_word CORE_BITS seen) (mark_word CORE_BITS (record seen { mark = mark.Held })) (with_context s2.known first);
        slots = (x, Some value) ∷ s2.slots;
      })
      (e4 : s4 ≡ record s3 { slots = (x, None) ∷ rest s3.slots }) where
    early : s2 ≡ record s0 { known = looked x (mark_word CORE_BITS seen) (learned (name_index z.table.slots p) x s0.known) }
    early = e2 ∙ ap (λ (v : CallView T). record v { known = looked x (mark_word CORE_BITS seen) v.known }) e1

    late : s4 ≡ record s0 {
      known = noted kind.Take x (mark_word CORE_BITS seen) (mark_word CORE_BITS (record seen { mark = mark.Held }))
          (with_context (looked x (mark_word CORE_BITS seen) (learned (name_index z.table.slots p) x s0.known)) first);
      slots = (x, None) ∷ s0.slots;
    }
    late = e4 ∙ ap (λ (v : CallView T). record v { slots = (x, None) ∷ rest v.slots }) (e3 ∙ ap (λ (v : CallView T). record v {
      known = noted kind.Take x (mark_word CORE_BITS seen) (mark_word CORE_BITS (record seen { mark = mark.Held })) (with_context v.known first);
      slots = (x, Some value) ∷ v.slots;
    }) early)

    pub fresh-first : carried_at x s0.known.carried ≡ []
    fresh-first = ap (λ (v : CallView T). carried_at x v.known.carried) (sym early) ∙ fresh

    pub taken : IsTaken z s4 x p first
    taken = assumption (subst (λ (v : CallView T). Carries v.known first) (sym late) (with-at first x s0.known.carried refl), subst (λ (v : CallView T). HasLast v.slots x None) (sym late) refl)

    module _ (s5 : CallView T) (before : ℕ) (e5 : s5 ≡ record s4 {
      known = noted kind.KeepName (name_index z.table.slots p) before x (with_context s4.known at_last);
      slots = rest s4.slots;
    }) where
      pub after : s5 ≡ record s0 {
        known = noted kind.KeepName (name_index z.table.slots p) before x
            (noted kind.Take x (mark_word CORE_BITS (marked_by mark.Ready hold_of)) (mark_word CORE_BITS (marked_by mark.Held hold_of))
            (looked x (mark_word CORE_BITS (marked_by mark.Ready hold_of)) (learned (name_index z.table.slots p) x (with_context s0.known (held_by hold_of tag)))));
      }
      after =
          let m : seen ≡ marked_by mark.Ready hold_of = λ i. record { mark = ready i; alone = seen.alone; place = at i; generation = seen.generation } in
          e5 ∙ ap (λ (v : CallView T). record v { known = noted kind.KeepName (name_index z.table.slots p) before x (with_context v.known at_last); slots = rest v.slots }) late
          ∙ (λ i. record s0 {
            known = record {
              carried = record at_last { place = at i; shown = at i } ∷ without-with first s0.known.carried i;
              given = s0.known.given;
              ended = s0.known.ended;
              records = record { kind = kind.KeepName; word = name_index z.table.slots p; before = before; after = x }
                  ∷ record { kind = kind.Take; word = x; before = mark_word CORE_BITS (m i); after = mark_word CORE_BITS (record (m i) { mark = mark.Held }) }
                  ∷ record { kind = kind.Look; word = x; before = mark_word CORE_BITS (m i); after = mark_word CORE_BITS (m i) }
                  ∷ record { kind = kind.Learn; word = name_index z.table.slots p; before = x; after = x } ∷ s0.known.records;
            };
          })
