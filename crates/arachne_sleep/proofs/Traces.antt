-- A trace with one more step, and seats that are split off and joined.
use Rattle.std.proofs.Common.{◌≡◌, ℕ, zero, suc, ◌+◌, ◌<◌, ◌⊎◌, inl, inr, eqb, false, List, [], ◌∷◌, ◌++◌, length, set, refl, sym, ap, ◌∙◌, subst, arith, length-set, length-append, get_or-set_same, Some, slice_get}
use Rattle.std.proofs.lemmas.Bool.{cases_eq, cond-true, cond-false, eq-eqb, ne_eqb, false≢true}
use Rattle.std.proofs.lemmas.Option.{none-some, same_Some}
use mathlib.Core.Option.{some, some-injective, some-ne-none}
use lib.ListN.{get_elem?}
use Rattle.atomic_table.proofs.Lists.{at_set}
use Rattle.arachne_weights.specs.{declared.token.Token.Token, Tokens.held}
use Rattle.arachne_sleep.specs.{declared.view.Record.Record, declared.view.Known.Known, Words.{guard_word, word_count}}
use Rattle.arachne_sleep.specs.Trace.{Entry, entry, IsNext, IsTrace, records_of, AreOfSeats, Tells, IsStepOf}

there-in : {A : Type 0} (xs : List A) (i : ℕ) (v : A) → get_elem? xs i ≡ some v → i < length xs
there-in [] i v e = absurd (some-ne-none v (sym e))
there-in (x ∷ xs) zero v e = omega arith
there-in (x ∷ xs) (suc i) v e = omega (arith, there-in xs i v e)

at-end : {A : Type 0} (l : List A) (a b : A) (j : ℕ) → get_elem? (l ++ a ∷ []) j ≡ some b → (get_elem? l j ≡ some b) ⊎ ((j ≡ length l) × (a ≡ b))
at-end [] a b zero e = inr (refl, some-injective a b e)
at-end [] a b (suc j) e = absurd (some-ne-none b (sym e))
at-end (x ∷ xs) a b zero e = inl e
at-end (x ∷ xs) a b (suc j) e = elim (at-end xs a b j e) [ inl old ↦ inl old | inr new ↦ inr (ap suc new.0, new.1) ]

-- a seat that is new has made no step
no-records : (n h : ℕ) (trace : List Entry) → AreOfSeats n trace → n ≡ h → records_of h trace ≡ []
no-records n h [] all e = refl
no-records n h (x ∷ es) all e =
    cond-false (eqb x.seat h) (x.step ∷ records_of h es) (records_of h es) (ne_eqb x.seat h (λ same. let below = all.0 in omega (arith, same, e, below))) ∙ no-records n h es all.1 e

more-seats : (n m : ℕ) (trace : List Entry) → AreOfSeats n trace → m ≡ n + 1 → AreOfSeats m trace
more-seats n m [] all e = tt
more-seats n m (x ∷ es) all e = (let below = all.0 in omega (arith, below, e), more-seats n m es all.1 e)

module _ (trace : List Entry) (words : List ℕ) (views : List (Token Known)) (t : Tells trace words views) (id weight : ℕ) (k : Known) (mine : get_elem? views id ≡ some (held weight k)) where
  -- a step of one seat
  pub tells-more : (step : Record) (k' : Known) → length words ≡ word_count → k'.log.records ≡ step ∷ k.log.records → IsNext trace step
      → Tells (entry id step ∷ trace) (set words guard_word step.after) (set views id (held weight k'))
  tells-more step k' one noted next = record {
    lawful = (t.lawful, next);
    word = get_or-set_same words guard_word step.after 0 (omega (arith, one));
    seats = subst (λ (n : ℕ). (id < n) × AreOfSeats n trace) (sym (length-set views id (held weight k'))) (there-in views id (held weight k) mine, t.seats);
    records = λ h u got live. elim (at_set views id h (held weight k') u got) [
      | inl e ↦ ap (λ (z : Token Known). z.known.log.records) (sym e.1) ∙ noted ∙ ap (λ (xs : List Record). step ∷ xs) (t.records id (held weight k) mine refl)
          ∙ sym (cond-true (eqb id id) (step ∷ records_of id trace) (records_of id trace) (eq-eqb id id refl))
          ∙ ap (λ (j : ℕ). records_of j (entry id step ∷ trace)) (sym e.0)
      | inr n ↦ t.records h u n.1 live ∙ sym (cond-false (eqb id h) (step ∷ records_of h trace) (records_of h trace) (ne_eqb id h (λ e. n.0 (sym e))))
    ];
  }

  -- a seat is split off
  pub tells-cut : (left right : Token Known) → left.known.log.records ≡ k.log.records → right.known.log.records ≡ [] → Tells trace words (set views id left ++ right ∷ [])
  tells-cut left right same none_yet = record {
    lawful = t.lawful;
    word = t.word;
    seats = more-seats (length views) (length (set views id left ++ right ∷ [])) trace t.seats (omega (arith, length-append (set views id left) (right ∷ []), length-set views id left));
    records = λ h u got live. elim (at-end (set views id left) right u h got) [
      | inl old ↦ elim (at_set views id h left u old) [
        | inl e ↦ ap (λ (z : Token Known). z.known.log.records) (sym e.1) ∙ same ∙ t.records id (held weight k) mine refl ∙ ap (λ (j : ℕ). records_of j trace) (sym e.0)
        | inr n ↦ t.records h u n.1 live
      ]
      | inr e ↦ ap (λ (z : Token Known). z.known.log.records) (sym e.1) ∙ none_yet ∙ sym (no-records (length views) h trace t.seats (sym (length-set views id left) ∙ sym e.0))
    ];
  }

  -- another seat is joined into it
  pub tells-join : (other : ℕ) (both gone : Token Known) → both.known.log.records ≡ k.log.records → gone.live ≡ false → Tells trace words (set (set views id both) other gone)
  tells-join other both gone same dead = record {
    lawful = t.lawful;
    word = t.word;
    seats = subst (λ (n : ℕ). AreOfSeats n trace) (sym (length-set (set views id both) other gone ∙ length-set views id both)) t.seats;
    records = λ h u got live. elim (at_set (set views id both) other h gone u got) [
      | inl e ↦ absurd (false≢true (sym dead ∙ ap (λ (z : Token Known). z.live) e.1 ∙ live))
      | inr x ↦ elim (at_set views id h both u x.1) [
        | inl e ↦ ap (λ (z : Token Known). z.known.log.records) (sym e.1) ∙ same ∙ t.records id (held weight k) mine refl ∙ ap (λ (j : ℕ). records_of j trace) (sym e.0)
        | inr n ↦ t.records h u n.1 live
      ]
    ];
  }

-- ---- what a seat has noted is in the trace

one-newer : (f : Entry) (es : List Entry) (h : ℕ) (r : Record) → IsStepOf es h r → IsStepOf (f ∷ es) h r
one-newer f es h r s = record { newer = f ∷ s.newer; older = s.older; whole = ap (λ (xs : List Entry). f ∷ xs) s.whole; next = s.next }

first-step : (f : Entry) (es : List Entry) (h at : ℕ) (r : Record) → IsTrace (f ∷ es) → f.seat ≡ h → slice_get (f.step ∷ records_of h es) at ≡ Some r
    → ((more : ℕ) → slice_get (records_of h es) more ≡ Some r → IsStepOf es h r) → IsStepOf (f ∷ es) h r
first-step f es h zero r l same e later =
    let is : f.step ≡ r = same_Some f.step r e in
    record { newer = []; older = es; whole = λ i. record { seat = same i; step = is i } ∷ es; next = subst (IsNext es) is l.1 }
first-step f es h (suc at) r l same e later = one-newer f es h r (later at e)

pub noted-is-made : (trace : List Entry) (h at : ℕ) (r : Record) → IsTrace trace → slice_get (records_of h trace) at ≡ Some r → IsStepOf trace h r
noted-is-made [] h at r l e = absurd (none-some r e)
noted-is-made (f ∷ es) h at r l e = elim (cases_eq f.seat h) [
  | inl same ↦ first-step f es h at r l same (sym (ap (λ (xs : List Record). slice_get xs at) (cond-true (eqb f.seat h) (f.step ∷ records_of h es) (records_of h es) (eq-eqb f.seat h same))) ∙ e)
      (λ more got. noted-is-made es h more r l.0 got)
  | inr other ↦ one-newer f es h r (noted-is-made es h at r l.0
      (sym (ap (λ (xs : List Record). slice_get xs at) (cond-false (eqb f.seat h) (f.step ∷ records_of h es) (records_of h es) (ne_eqb f.seat h other))) ∙ e))
]
