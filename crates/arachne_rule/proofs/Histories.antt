-- A history with one step more.
use Rattle.std.proofs.Common.{◌≡◌, ℕ, zero, suc, ◌<◌, eqb, List, [], ◌∷◌, ◌++◌, length, length-set, refl, sym, ap, ◌∙◌, subst, arith, inl, inr, set, get_or}
use Rattle.std.proofs.lemmas.Bool.{cases_eq, cond-true, cond-false, eq-eqb, ne_eqb}
use mathlib.Core.Option.{some, some-injective, some-ne-none}
use lib.ListN.{get_elem?}
use Rattle.atomic_table.proofs.Lists.{at_set}
use Rattle.arachne_core.specs.{declared.event.Event.Event, World.{World, Allowed, after}, Run.{IsRun, after_all}}
use Rattle.arachne_core.specs.declared.event.Event.TheVariants as event
use Rattle.arachne_weights.specs.{declared.token.Token.Token, Tokens.held}
use Rattle.arachne_rule.specs.{declared.view.{Known.Known, Record.Record, Shape.Shape, Kind.Kind}, Views.noted}
use Rattle.arachne_rule.specs.History.{Makes, world_after, events_of, records_of, IsHistory, AreOfSeats, Entry, IsStepOf}
use Rattle.arachne_rule.specs.Table.{Table, Tells}

-- an event changes no size
pub same_size : (w : World) (e : Event) → ((after w e).cores ≡ w.cores) × ((after w e).slots ≡ w.slots) × ((after w e).last ≡ w.last)
same_size w (event.Claim h x) = (refl, refl, refl)
same_size w _ = (refl, refl, refl)

pub there-in : {A : Type 0} (xs : List A) (i : ℕ) (v : A) → get_elem? xs i ≡ some v → i < length xs
there-in [] i v e = absurd (some-ne-none v (sym e))
there-in (x ∷ xs) zero v e = omega arith
there-in (x ∷ xs) (suc i) v e = omega (arith, there-in xs i v e)

-- the entry of a step
abbrev pub entry : ℕ → Kind → ℕ → ℕ → ℕ → Event → Entry
entry id kind word before after e = record { seat = id; step = record { kind = kind; word = word; before = before; after = after }; event = e }

module _ {T : Type 0} (bits : ℕ) (shape : Shape) (w : World) (first : List ℕ) (history : List Entry) (s : Table T) (t : Tells bits shape w first history s)
    (id weight : ℕ) (k : Known) (mine : get_elem? s.views id ≡ some (held weight k)) where
  pub tells-more : (kind : Kind) (i new : ℕ) (e : Event) (k' : Known) (a : Table T) → k'.records ≡ k.records → Allowed w e
      → Makes bits w (entry id kind i (get_or s.words i 0) new e)
      → a.words ≡ set s.words i new → a.views ≡ set s.views id (held weight (noted kind i (get_or s.words i 0) new k'))
      → Tells bits shape (after w e) first (entry id kind i (get_or s.words i 0) new e ∷ history) a
  tells-more kind i new e k' a kept allowed makes words views =
      let step : Entry = entry id kind i (get_or s.words i 0) new e in
      let u : Token Known = held weight (noted kind i (get_or s.words i 0) new k') in
      let v : World → World = λ (z : World). after z e in
      record {
        first_words = t.first_words;
        lawful = (
          t.lawful,
          record {
            found = sym (ap (λ (ws : List ℕ). get_or ws i 0) t.words);
            allowed = subst (λ (z : World). Allowed z e) t.world allowed;
            makes = subst (λ (z : World). Makes bits z step) t.world makes;
          },
        );
        world = ap v t.world;
        words = words ∙ ap (λ (ws : List ℕ). set ws i new) t.words;
        seats = subst (λ (n : ℕ). (id < n) × AreOfSeats n history) (sym (ap length views ∙ length-set s.views id u)) (there-in s.views id (held weight k) mine, t.seats);
        records = λ h q r got. elim (at_set s.views id h u (held q r) (sym (ap (λ (vs : List (Token Known)). get_elem? vs h) views) ∙ got)) [
          | inl e ↦ ap (λ (z : Token Known). z.known.records) (sym e.1) ∙ ap (λ (rs : List Record). step.step ∷ rs) (kept ∙ t.records id weight k mine)
              ∙ sym (cond-true (eqb id id) (step.step ∷ records_of id history) (records_of id history) (eq-eqb id id refl))
              ∙ ap (λ (j : ℕ). records_of j (step ∷ history)) (sym e.0)
          | inr n ↦ t.records h q r n.1 ∙ sym (cond-false (eqb id h) (step.step ∷ records_of h history) (records_of h history) (ne_eqb id h (λ e. n.0 (sym e))))
        ];
      }

-- ---- a history is a run of the World

after-snoc : (w : World) (es : List Event) (e : Event) → after_all w (es ++ e ∷ []) ≡ after (after_all w es) e
after-snoc w [] e = refl
after-snoc w (f ∷ es) e = after-snoc (after w f) es e

run-snoc : (w : World) (es : List Event) (e : Event) → IsRun w es → Allowed (after_all w es) e → IsRun w (es ++ e ∷ [])
run-snoc w [] e r a = (a, tt)
run-snoc w (f ∷ es) e r a = (r.0, run-snoc (after w f) es e r.1 a)

pub history-is-a-run : (bits : ℕ) (w : World) (first : List ℕ) (history : List Entry) → IsHistory bits w first history
    → IsRun w (events_of history) × (after_all w (events_of history) ≡ world_after w history)
history-is-a-run bits w first [] l = (tt, refl)
history-is-a-run bits w first (e ∷ es) l =
    let r = history-is-a-run bits w first es l.0 in (
      run-snoc w (events_of es) e.event r.0 (subst (λ (z : World). Allowed z e.event) (sym r.1) l.1.allowed),
      after-snoc w (events_of es) e.event ∙ ap (λ (z : World). after z e.event) r.1,
    )

-- ---- what a seat has noted is in the history

one-newer : (bits : ℕ) (w : World) (first : List ℕ) (f : Entry) (es : List Entry) (h : ℕ) (r : Record) → IsStepOf bits w first es h r → IsStepOf bits w first (f ∷ es) h r
one-newer bits w first f es h r s = record { newer = f ∷ s.newer; older = s.older; entry = s.entry; whole = ap (λ (xs : List Entry). f ∷ xs) s.whole; by_seat = s.by_seat; is = s.is; next = s.next }

first-record : (bits : ℕ) (w : World) (first : List ℕ) (f : Entry) (es : List Entry) (h at : ℕ) (r : Record) → IsHistory bits w first (f ∷ es) → f.seat ≡ h
    → get_elem? (f.step ∷ records_of h es) at ≡ some r → ((more : ℕ) → get_elem? (records_of h es) more ≡ some r → IsStepOf bits w first es h r)
    → IsStepOf bits w first (f ∷ es) h r
first-record bits w first f es h zero r l same e later = record { newer = []; older = es; entry = f; whole = refl; by_seat = same; is = some-injective f.step r e; next = l.1 }
first-record bits w first f es h (suc at) r l same e later = one-newer bits w first f es h r (later at e)

pub record-is-a-step : (bits : ℕ) (w : World) (first : List ℕ) (history : List Entry) (h at : ℕ) (r : Record) → IsHistory bits w first history → get_elem? (records_of h history) at ≡ some r
    → IsStepOf bits w first history h r
record-is-a-step bits w first [] h at r l e = absurd (some-ne-none r (sym e))
record-is-a-step bits w first (f ∷ es) h at r l e = elim (cases_eq f.seat h) [
  | inl same ↦ first-record bits w first f es h at r l same (sym (ap (λ (rs : List Record). get_elem? rs at) (cond-true (eqb f.seat h) (f.step ∷ records_of h es) (records_of h es) (eq-eqb f.seat h same))) ∙ e)
      (λ more got. record-is-a-step bits w first es h more r l.0 got)
  | inr other ↦ one-newer bits w first f es h r (record-is-a-step bits w first es h at r l.0
      (sym (ap (λ (rs : List Record). get_elem? rs at) (cond-false (eqb f.seat h) (f.step ∷ records_of h es) (records_of h es) (ne_eqb f.seat h other))) ∙ e))
]
